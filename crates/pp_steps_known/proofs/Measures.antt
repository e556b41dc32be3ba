-- Whether measure values go down is known, where the values are.
use Rattle.std.proofs.Common.{◌≡◌, ℕ, suc, List, [], ◌∷◌, ◌++◌, Option, Some, None, refl, sym, ap, ◌∙◌, subst}
use Rattle.std.specs.Prelude.{All}
use Rattle.std.proofs.lemmas.List.Elements.{All-head, All-nil, All-tail}
use Rattle.pp_tree.specs.declared.operator.BinaryOp.TheVariants.{Equal}
use Rattle.pp_prog.specs.declared.id.CheckId.{CheckId}
use Rattle.pp_prog.specs.declared.types.Ctor.{Ctor}
use Rattle.pp_steps.specs.declared.step.Step.TheVariants as steps
use Rattle.pp_steps.specs.Frames.{Frame, descending, falling, lower, shaped}
use Rattle.pp_steps.specs.Meaning.{Missing, Values}
use Rattle.pp_steps.specs.Piece.{Piece, after, asks, demand, plain}
use Rattle.pp_steps_run.specs.Told.{On}
use Rattle.pp_steps_known.proofs.Given.{IsEndKnown, IsGiven, demand_known, end_known, given_left, given_right}
use Rattle.pp_steps_known.proofs.Given.{known_behind, known_plain, known_within}

-- a piece that stops nothing, and whose outcome is known where Q holds
pub record IsTest (K : ℕ → Type 0) (Q : Type 0) (reach : ℕ) (x : Piece ℕ) : Type 0 where
  pub alive : x.alive ≡ reach
  pub fails : x.fails ≡ []
  pub out : Q → K x.out

-- the measure values of the frame are known, if it has any
abbrev pub IsFrameKnown : (ℕ → Type 0) → Frame → Type 0
IsFrameKnown K None = Unit {0}
IsFrameKnown K (Some ns) = All K ns

module _ (ctors : List Ctor) (missing : Missing) (ρ : Values) (K : ℕ → Type 0) where
  abbrev Given : ℕ → Piece ℕ → Type 0
  Given k x = IsGiven ρ K ctors missing k x.steps

  module _ (Q : Type 0) where
    falling_test : (new old : List ℕ) (k alive : ℕ) → Given k (falling new old k alive)
        → (Q → All K new) → (Q → All K old) → IsTest K Q alive (falling new old k alive)
    falling_test [] old k alive h n o = record { alive = refl; fails = refl; out = λ q. h.tells.0 }
    falling_test (x ∷ xs) [] k alive h n o = record { alive = refl; fails = refl; out = λ q. h.tells.0 }
    falling_test (x ∷ []) (y ∷ ys) k alive h n o = record {
      alive = refl;
      fails = refl;
      out = λ q. h.tells.0 (All-head K x [] (n q)) (All-head K y ys (o q));
    }
    falling_test (x ∷ z ∷ xs) (y ∷ ys) k alive h n o =
        let p : Piece ℕ = plain (steps.GoesDown x y ∷ steps.Binary Equal x y ∷ []) k alive in
        let i = after k p in
        let r = falling (z ∷ xs) ys i alive in
        let j = after i r in
        let l = steps.Both (suc k) r.out ∷ steps.Choose k k j ∷ [] in
        let hp = given_left k p.steps (r.steps ++ l) h in
        let hrl = given_right k p.steps (r.steps ++ l) h in
        let hr = falling_test (z ∷ xs) ys i alive (given_left i r.steps l hrl)
        (λ q. All-tail K x (z ∷ xs) (n q)) (λ q. All-tail K y ys (o q)) in
        let hl = given_right i r.steps l hrl in
        let down = λ (q : Q). hp.tells.0 (All-head K x (z ∷ xs) (n q)) (All-head K y ys (o q)) in
        let same = λ (q : Q). hp.tells.1.0 (All-head K x (z ∷ xs) (n q)) (All-head K y ys (o q)) in
        record {
          alive = refl;
          fails = ap (λ (ns : List ℕ). ns ++ []) hr.fails;
          out = λ q. hl.tells.1.0 (down q) (λ on. down q) (λ off. hl.tells.0 (same q) (λ on. hr.out q));
        }

    shaped_test : (new old : List ℕ) (k test alive : ℕ) → Given k (shaped new old k test alive)
        → (Q → All K new) → (Q → All K old) → (Q → K test) → IsTest K Q alive (shaped new old k test alive)
    shaped_test [] [] k test alive h n o t = record { alive = refl; fails = refl; out = t }
    shaped_test [] (y ∷ ys) k test alive h n o t = record { alive = refl; fails = refl; out = λ q. h.tells.0 }
    shaped_test (x ∷ xs) [] k test alive h n o t = record { alive = refl; fails = refl; out = λ q. h.tells.0 }
    shaped_test (x ∷ xs) (y ∷ ys) k test alive h n o t =
        let p : Piece ℕ = plain (steps.IsAlike x y ∷ steps.Both test k ∷ []) (suc k) alive in
        let i = after k p in
        let r = shaped xs ys i (suc k) alive in
        let hp = given_left k p.steps r.steps h in
        let hr = shaped_test xs ys i (suc k) alive (given_right k p.steps r.steps h)
        (λ q. All-tail K x xs (n q)) (λ q. All-tail K y ys (o q))
        (λ q. hp.tells.1.0 (t q) (λ on. hp.tells.0 (All-head K x xs (n q)) (All-head K y ys (o q)))) in
        record { alive = hr.alive; fails = hr.fails; out = hr.out }

    lower_test : (new old : List ℕ) (k alive : ℕ) → Given k (lower new old k alive)
        → (Q → All K new) → (Q → All K old) → IsTest K Q alive (lower new old k alive)
    lower_test new old k alive h n o =
        let p = falling new old k alive in
        let r = shaped new old (after k p) p.out alive in
        let hp = falling_test new old k alive (given_left k p.steps r.steps h) n o in
        let hr = shaped_test new old (after k p) p.out alive (given_right k p.steps r.steps h) n o hp.out in
        record { alive = hr.alive; fails = ap (λ (ns : List ℕ). ns ++ r.fails) hp.fails ∙ hr.fails; out = hr.out }

  pub descending_known : (asked check : Option CheckId) (old new : Frame) (k alive : ℕ)
      → Given k (descending asked check old new k alive) → K alive
      → (On ρ alive → IsFrameKnown K old) → (On ρ alive → IsFrameKnown K new)
      → IsEndKnown ρ K alive (descending asked check old new k alive)
  descending_known asked None old new k alive h a o n = known_plain [] alive alive a (λ on. tt)
  descending_known asked (Some c) None new k alive h a o n = known_plain [] alive alive a (λ on. tt)
  descending_known asked (Some c) (Some old) None k alive h a o n = known_plain [] alive alive a (λ on. tt)
  descending_known asked (Some c) (Some old) (Some new) k alive h a o n =
      let p = lower new old k alive in
      let d = demand (asks asked (Some c)) (after k p) p.alive p.out in
      let hp = lower_test (On ρ alive) new old k alive (given_left k p.steps d.steps h) n o in
      let on_alive = λ (on : On ρ p.alive). subst (λ i. On ρ i) hp.alive on in
      let hd = demand_known (asks asked (Some c)) (after k p) p.alive p.out (given_right k p.steps d.steps h)
      (subst K (sym hp.alive) a) (λ on. hp.out (on_alive on)) in
      known_behind p d (subst (All K) (sym hp.fails) (All-nil K))
      (known_within d on_alive (end_known d hd))
