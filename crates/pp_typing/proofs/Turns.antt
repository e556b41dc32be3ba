-- Turns of loops that take the elements of a list one by one, each of which may break a rule.
use Rattle.std.proofs.Common.{◌≡◌, ◌∙◌, ℕ, ◌+◌, ◌<◌, List, [], ◌∷◌, ◌++◌, length, get_or, drop, Ok, Err, Result}
use Rattle.std.proofs.Common.{sym, ap, subst}
use Rattle.pp_fault.specs.declared.Halt.{Halt}
use Rattle.pp_fault.specs.declared.Halt.TheVariants.{Memory, Broken}
use Rattle.pp_fault.specs.Part.{Part, Tells, and_then}
use Rattle.pp_fault.proofs.Parts.{goes, stops}
use Rattle.pp_list.proofs.Lists.{rest_at}
use Rattle.pp_typing.specs.Views.{TellsBoth}

pub stops_both : {A B S T : Type 0} (h : Halt) (s : S) (t : T) (part : Part (A × S)) (whole : Part (B × T))
    (go : A × S → Part (B × T))
    → whole ≡ and_then part go → TellsBoth (Err h) s part → TellsBoth (Err h) t whole
stops_both Memory s t part whole go e told = tt
stops_both (Broken f) s t part whole go e told = e ∙ ap (λ r. and_then r go) told

pub first_stops : {A B S : Type 0} (r : Result B Halt) (h : Halt) (s : S) (part : Part (A × S)) (whole : Part B)
    (go : A × S → Part B)
    → r ≡ Err h → whole ≡ and_then part go → TellsBoth {A = A} (Err h) s part → Tells r whole
first_stops r Memory s part whole go is e told = subst (λ q. Tells q whole) (sym is) tt
first_stops r (Broken f) s part whole go is e told = subst (λ q. Tells q whole) (sym is) (e
    ∙ ap (λ p. and_then p go) told)

-- two lists side by side, with a state that each element changes
module _ {X P S A : Type 0} (F : List A → List X → List P → S → Part (List A × S)) (G : X → P → S → Part (A × S))
    (step : (done : List A) (x : X) (xs : List X) (p : P) (ps : List P) (s : S)
    → F done (x ∷ xs) (p ∷ ps) s ≡ and_then (G x p s) (λ r. F (done ++ r.0 ∷ []) xs ps r.1)) where
  at_both : (xs : List X) (ps : List P) (i : ℕ) (x : X) (p : P) (done : List A) (s : S)
      → i < length xs → x ≡ get_or xs i x → i < length ps → p ≡ get_or ps i p
      → F done (drop i xs) (drop i ps) s ≡ and_then (G x p s) (λ r. F (done ++ r.0 ∷ []) (drop (i + 1) xs) (drop
      (i + 1) ps) r.1)
  at_both xs ps i x p done s lx ix lp ip =
      ap (λ l. F done l (drop i ps) s) (rest_at xs i x lx ix)
      ∙ ap (λ l. F done (x ∷ drop (i + 1) xs) l s) (rest_at ps i p lp ip)
      ∙ step done x (drop (i + 1) xs) p (drop (i + 1) ps) s

  pub both_turn : (whole : Part (List A × S)) (xs : List X) (ps : List P) (i : ℕ) (x : X) (p : P) (done : List A)
      (s t : S) (a : A)
      → i < length xs → x ≡ get_or xs i x → i < length ps → p ≡ get_or ps i p
      → whole ≡ F done (drop i xs) (drop i ps) s → G x p s ≡ Ok (a, t)
      → whole ≡ F (done ++ a ∷ []) (drop (i + 1) xs) (drop (i + 1) ps) t
  both_turn whole xs ps i x p done s t a lx ix lp ip e one =
      e ∙ at_both xs ps i x p done s lx ix lp ip ∙ goes (G x p s) _ (a, t) one

  pub both_stop : (whole : Part (List A × S)) (xs : List X) (ps : List P) (i : ℕ) (x : X) (p : P) (done : List A)
      (s t u : S) (h : Halt)
      → i < length xs → x ≡ get_or xs i x → i < length ps → p ≡ get_or ps i p
      → whole ≡ F done (drop i xs) (drop i ps) s → TellsBoth {A = A} (Err h) t (G x p s)
      → TellsBoth {A = List A} (Err h) u whole
  both_stop whole xs ps i x p done s t u h lx ix lp ip e told =
      stops_both h t u (G x p s) whole _ (e ∙ at_both xs ps i x p done s lx ix lp ip) told

-- one list, where an element may depend on what is done
module _ {X A : Type 0} (F : List A → List X → Part (List A)) (G : List A → X → Part A)
    (step : (done : List A) (x : X) (xs : List X)
    → F done (x ∷ xs) ≡ and_then (G done x) (λ a. F (done ++ a ∷ []) xs)) where
  pub turn : (whole : Part (List A)) (xs : List X) (i : ℕ) (x : X) (done : List A) (a : A)
      → i < length xs → x ≡ get_or xs i x → whole ≡ F done (drop i xs) → G done x ≡ Ok a
      → whole ≡ F (done ++ a ∷ []) (drop (i + 1) xs)
  turn whole xs i x done a lx ix e one =
      e ∙ ap (F done) (rest_at xs i x lx ix) ∙ step done x (drop (i + 1) xs) ∙ goes (G done x) _ a one

  pub stop : (whole : Part (List A)) (xs : List X) (i : ℕ) (x : X) (done : List A) (h : Halt)
      → i < length xs → x ≡ get_or xs i x → whole ≡ F done (drop i xs) → Tells {A = A} (Err h) (G done x)
      → Tells {A = List A} (Err h) whole
  stop whole xs i x done h lx ix e told =
      stops h (G done x) whole _ (e ∙ ap (F done) (rest_at xs i x lx ix) ∙ step done x (drop (i + 1) xs)) told
