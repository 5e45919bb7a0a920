-- One more event at the end of a run, and its answer behind the others.
use Rattle.std.proofs.Common.{◌≡◌, ℕ, zero, suc, ◌+◌, ◌<◌, List, [], ◌∷◌, ◌++◌, length, drop, set, ℤ, pos, refl, ap, ◌∙◌, add-one, drop-cons}
use Rattle.rules.specs.Run.{Event, happens, run_outcome}
use Rattle.state.proofs.Look.{listed_length}
use Rattle.state.specs.Read.{listed}
use Rattle.kernel.specs.Script.{event_at, events_in}

listed_more : {A : Type 0} (n : ℕ) (f : ℕ → A) → listed (suc n) f ≡ listed n f ++ (f n ∷ [])
unfolding listed
listed_more zero f = refl
listed_more {A} (suc n) f = ap (λ (l : List A). f 0 ∷ l) (listed_more n (λ k. f (suc k)))

-- the run over one event more
run_more : (b : List ℕ) (es : List Event) (e : Event)
    → run_outcome b (es ++ (e ∷ [])) ≡ record { replies = (run_outcome b es).replies ++ ((happens (run_outcome b es).buffer e).reply ∷ []); buffer = (happens (run_outcome b es).buffer e).buffer }
unfolding run_outcome
run_more b [] e = refl
run_more b (x ∷ es) e =
    let q = run_more (happens b x).buffer es e in
    λ i. record { replies = (happens b x).reply ∷ (q i).replies; buffer = (q i).buffer }

replies_length : (b : List ℕ) (es : List Event) → length (run_outcome b es).replies ≡ length es
unfolding run_outcome
replies_length b [] = refl
replies_length b (e ∷ es) = ap suc (replies_length (happens b e).buffer es)

-- an answer stored behind the others
set_next : (xs ys : List ℤ) (i : ℕ) (v : ℤ) → length xs ≡ i → i < length ys → set (xs ++ drop i ys) i v ≡ (xs ++ (v ∷ [])) ++ drop (i + 1) ys
set_next xs ys i v e h =
    let d = drop-cons ys i (pos 0) h in
    rw (add-one i, d, ← e) (at_seam xs (drop (suc (length xs)) ys) _)
  where
    at_seam : (xs zs : List ℤ) (y : ℤ) → set (xs ++ (y ∷ zs)) (length xs) v ≡ (xs ++ (v ∷ [])) ++ zs
    at_seam [] zs y = refl
    at_seam (x ∷ xs) zs y = ap (λ (l : List ℤ). x ∷ l) (at_seam xs zs y)

module _ (b script : List ℕ) (i : ℕ) where
  pub events_length : length (events_in i script) ≡ i
  unfolding events_in
  events_length = listed_length i (event_at script)

  pub run_next : run_outcome b (events_in (suc i) script) ≡ record { replies = (run_outcome b (events_in i script)).replies ++ ((happens (run_outcome b (events_in i script)).buffer (event_at script i)).reply ∷ []); buffer = (happens (run_outcome b (events_in i script)).buffer (event_at script i)).buffer }
  unfolding events_in
  run_next = ap (run_outcome b) (listed_more i (event_at script)) ∙ run_more b (listed i (event_at script)) (event_at script i)

  pub answer_next : (out : List ℤ) (v : ℤ) → i < length out → set ((run_outcome b (events_in i script)).replies ++ drop i out) i v ≡ ((run_outcome b (events_in i script)).replies ++ (v ∷ [])) ++ drop (i + 1) out
  answer_next out v h = set_next (run_outcome b (events_in i script)).replies out i v (replies_length b (events_in i script) ∙ events_length) h
