-- What the TYPE test of each kind shows.
use mathlib.Core.Path.{refl, ◌≡◌}
use Prim.Native.Nat.{ℕ}
use Rattle.rules.specs.Calls.{as_directory_object}
use Rattle.rules.specs.Numbers.{as_directory, as_endpoint, as_function, as_memory, as_process, as_table}
use Rattle.passed.specs.Found.{spanned, stretched}
use Rattle.passed.specs.Names.{Directory, Endpoint, Function, Kind, Memory, Process, Slot, Table}
use Rattle.passed.proofs.Given.{Given, bind, given, refused}

pub is_table : (k : Kind) → Given (as_table k) (λ o. k ≡ Table o)
unfolding as_table
is_table (Table o) = given refl
is_table (Directory o l h) = refused refl
is_table (Memory l h) = refused refl
is_table (Process o) = refused refl
is_table (Endpoint o) = refused refl
is_table (Function l h) = refused refl

pub is_directory : (k : Kind) → Given (as_directory k) (λ d. k ≡ spanned d)
unfolding as_directory
is_directory (Table o) = refused refl
is_directory (Directory o l h) = given refl
is_directory (Memory l h) = refused refl
is_directory (Process o) = refused refl
is_directory (Endpoint o) = refused refl
is_directory (Function l h) = refused refl

pub is_memory : (k : Kind) → Given (as_memory k) (λ m. k ≡ stretched m)
unfolding as_memory
is_memory (Table o) = refused refl
is_memory (Directory o l h) = refused refl
is_memory (Memory l h) = given refl
is_memory (Process o) = refused refl
is_memory (Endpoint o) = refused refl
is_memory (Function l h) = refused refl

pub is_process : (k : Kind) → Given (as_process k) (λ o. k ≡ Process o)
unfolding as_process
is_process (Table o) = refused refl
is_process (Directory o l h) = refused refl
is_process (Memory l h) = refused refl
is_process (Process o) = given refl
is_process (Endpoint o) = refused refl
is_process (Function l h) = refused refl

pub is_endpoint : (k : Kind) → Given (as_endpoint k) (λ o. k ≡ Endpoint o)
unfolding as_endpoint
is_endpoint (Table o) = refused refl
is_endpoint (Directory o l h) = refused refl
is_endpoint (Memory l h) = refused refl
is_endpoint (Process o) = refused refl
is_endpoint (Endpoint o) = given refl
is_endpoint (Function l h) = refused refl

pub is_function : (k : Kind) → Given (as_function k) (λ f. k ≡ Function f.low f.high)
unfolding as_function
is_function (Table o) = refused refl
is_function (Directory o l h) = refused refl
is_function (Memory l h) = refused refl
is_function (Process o) = refused refl
is_function (Endpoint o) = refused refl
is_function (Function l h) = given refl

-- the object of a directory right
pub record ADirectory (k : Kind) (o : Slot) : Type 0 where
  pub low : ℕ
  pub high : ℕ
  pub is : k ≡ Directory o low high

pub is_directory_object : (k : Kind) → Given (as_directory_object k) (ADirectory k)
unfolding as_directory_object
is_directory_object k = bind (is_directory k) λ d h. given (record { low = d.low; high = d.high; is = h })
