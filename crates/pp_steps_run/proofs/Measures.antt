-- The steps that compare measure values.
use Rattle.std.proofs.Common.{◌≡◌, ℕ, suc, Bool, true, false, List, [], ◌∷◌, ◌++◌, Option, Some, None, Ok, Err, refl}
use Rattle.std.proofs.Common.{sym, ap, ◌∙◌, subst}
use Rattle.std.proofs.Math.Bool.{and-false, and_assoc}
use Rattle.std.specs.Prelude.{◌&&◌, ◌||◌, if◌then◌else◌}
use Rattle.pp_tree.specs.declared.operator.BinaryOp.TheVariants.{Equal}
use Rattle.pp_prog.specs.declared.id.CheckId.{CheckId}
use Rattle.pp_prog.specs.declared.types.Ctor.{Ctor}
use Rattle.pp_prog.specs.declared.value.Value.{Value}
use Rattle.pp_prog.specs.declared.value.Value.TheViews.{out-Value}
use Rattle.pp_eval.specs.declared.outcome.Stop.TheVariants.{Fails}
use Rattle.pp_eval.specs.Invocation.{descends}
use Rattle.pp_eval.specs.Equality.{equal}
use Rattle.pp_eval.specs.Measure.{falls, goes_down, is_below, of_one_shape, one_sort}
use Rattle.pp_eval.specs.Meaning as run
use Rattle.pp_eval.specs.Part.{either}
use Rattle.pp_steps.specs.declared.step.Step.TheVariants as steps
use Rattle.pp_steps.specs.Frames.{Frame, descending, falling, lower, shaped}
use Rattle.pp_steps.specs.Meaning.{Missing, Values, bit}
use Rattle.pp_steps.specs.Piece.{Piece, after, asks, demand, joined, plain}
use Rattle.pp_steps_run.specs.Told.{AllOf, AreValues, IsMade, IsQuiet, IsTold, Off, On}
use Rattle.pp_steps_run.proofs.Choices.{demand_off, demand_on, demand_quiet}
use Rattle.pp_steps_run.proofs.Pieces.{bit_truth, made_left, made_right, quiet_bind, quiet_plain, told_after}

pub or_if : (a b : Bool) → (if a then a else b) ≡ (a || b)
or_if true b = refl
or_if false b = refl

pub bit_if : (ρ : Values) (a b : ℕ) (t : Bool) → bit (if t then ρ a else ρ b) ≡ (if t then bit (ρ a) else bit (ρ b))
bit_if ρ a b true = refl
bit_if ρ a b false = refl

or_false : (a : Bool) → (a || false) ≡ a
or_false true = refl
or_false false = refl

and_swap : (a b : Bool) → (a && b) ≡ (b && a)
and_swap true true = refl
and_swap true false = refl
and_swap false true = refl
and_swap false false = refl

module _ (ctors : List Ctor) (missing : Missing) (ρ : Values) where
  abbrev Made : {A : Type 0} → ℕ → Piece A → Type 0
  Made k x = IsMade ctors missing ρ k x

  falling_is : (new old : List ℕ) (vs ws : List Value) → AreValues ρ new vs → AreValues ρ old ws → (k alive : ℕ)
      → Made k (falling new old k alive)
      → bit (ρ (falling new old k alive).out) ≡ falls vs ws
  falling_is [] old [] ws a b k alive h = ap bit h.steps.0 ∙ bit_truth false
  falling_is (x ∷ xs) [] (v ∷ vs) [] a b k alive h = ap bit h.steps.0 ∙ bit_truth false
  falling_is (x ∷ []) (y ∷ ys) (v ∷ []) (w ∷ ws) a b k alive h =
      ap bit h.steps.0 ∙ bit_truth _ ∙ ap (λ u. goes_down u (ρ y)) a.0 ∙ ap (goes_down v) b.0
      ∙ sym (ap (λ z. goes_down v w || z) (and-false (equal v w)) ∙ or_false (goes_down v w))
  falling_is (x ∷ z ∷ xs) (y ∷ ys) (v ∷ u ∷ vs) (w ∷ ws) a b k alive h =
      let one : Piece ℕ = plain (steps.GoesDown x y ∷ steps.Binary Equal x y ∷ []) k alive in
      let n = after k one in
      let rest = falling (z ∷ xs) ys n alive in
      let m = after n rest in
      let last : Piece ℕ = plain (steps.Both (suc k) rest.out ∷ steps.Choose k k m ∷ []) (suc m) alive in
      let h2 = made_right ctors missing ρ k one (joined rest last) h in
      let h3 = made_right ctors missing ρ n rest last h2 in
      let down : bit (ρ k) ≡ goes_down v w = ap bit h.steps.0 ∙ bit_truth _ ∙ ap (λ q. goes_down q (ρ y)) a.0 ∙ ap
      (goes_down v) b.0 in
      let same : bit (ρ (suc k)) ≡ equal v w = ap bit h.steps.1.0 ∙ bit_truth _ ∙ ap (λ q. equal q (ρ y)) a.0 ∙ ap
      (equal v) b.0 in
      let later = falling_is (z ∷ xs) ys (u ∷ vs) ws a.1 b.1 n alive
      (made_left ctors missing ρ n rest last h2) in
      let both : bit (ρ m) ≡ (equal v w && falls (u ∷ vs) ws) = ap bit h3.steps.0 ∙ bit_truth _ ∙ ap
      (λ q. q && bit (ρ rest.out)) same ∙ ap (λ q. equal v w && q) later in
      ap bit h3.steps.1.0 ∙ bit_if ρ k m (bit (ρ k)) ∙ or_if (bit (ρ k)) (bit (ρ m)) ∙ ap (λ q. q || bit (ρ m)) down
      ∙ ap (λ q. goes_down v w || q) both
  falling_is [] old (v ∷ vs) ws a b k alive h = absurd a
  falling_is (x ∷ xs) old [] ws a b k alive h = absurd a
  falling_is (x ∷ xs) [] (v ∷ vs) (w ∷ ws) a b k alive h = absurd b
  falling_is (x ∷ xs) (y ∷ ys) (v ∷ vs) [] a b k alive h = absurd b
  falling_is (x ∷ []) (y ∷ ys) (v ∷ u ∷ vs) (w ∷ ws) a b k alive h = absurd a.1
  falling_is (x ∷ z ∷ xs) (y ∷ ys) (v ∷ []) (w ∷ ws) a b k alive h = absurd a.1

  shaped_is : (new old : List ℕ) (vs ws : List Value) → AreValues ρ new vs → AreValues ρ old ws → (k test alive : ℕ)
      → Made k (shaped new old k test alive)
      → bit (ρ (shaped new old k test alive).out) ≡ (bit (ρ test) && of_one_shape ctors vs ws)
  shaped_is [] [] [] [] a b k test alive h = sym (and_swap (bit (ρ test)) true)
  shaped_is [] (y ∷ ys) [] (w ∷ ws) a b k test alive h =
      ap bit h.steps.0 ∙ bit_truth false ∙ sym (and-false (bit (ρ test)))
  shaped_is (x ∷ xs) [] (v ∷ vs) [] a b k test alive h =
      ap bit h.steps.0 ∙ bit_truth false ∙ sym (and-false (bit (ρ test)))
  shaped_is (x ∷ xs) (y ∷ ys) (v ∷ vs) (w ∷ ws) a b k test alive h =
      let one : Piece ℕ = plain (steps.IsAlike x y ∷ steps.Both test k ∷ []) (suc k) alive in
      let n = after k one in
      let rest = shaped xs ys n (suc k) alive in
      let alike : bit (ρ k) ≡ one_sort ctors (out-Value v) (out-Value w) =
      ap bit h.steps.0 ∙ bit_truth _ ∙ ap (λ q. one_sort ctors (out-Value q) (out-Value (ρ y))) a.0 ∙ ap
      (λ q. one_sort ctors (out-Value v) (out-Value q)) b.0 in
      shaped_is xs ys vs ws a.1 b.1 n (suc k) alive (made_right ctors missing ρ k one rest h)
      ∙ ap (λ q. q && of_one_shape ctors vs ws) (ap bit h.steps.1.0 ∙ bit_truth _ ∙ ap (λ q. bit (ρ test) && q) alike)
      ∙ and_assoc (bit (ρ test)) (one_sort ctors (out-Value v) (out-Value w)) (of_one_shape ctors vs ws)
  shaped_is [] old (v ∷ vs) ws a b k test alive h = absurd a
  shaped_is (x ∷ xs) old [] ws a b k test alive h = absurd a
  shaped_is [] [] [] (w ∷ ws) a b k test alive h = absurd b
  shaped_is [] (y ∷ ys) [] [] a b k test alive h = absurd b
  shaped_is (x ∷ xs) [] (v ∷ vs) (w ∷ ws) a b k test alive h = absurd b
  shaped_is (x ∷ xs) (y ∷ ys) (v ∷ vs) [] a b k test alive h = absurd b

  -- ---- they stop nothing

  falling_plain : (new old : List ℕ) (k alive : ℕ)
      → ((falling new old k alive).alive ≡ alive) × ((falling new old k alive).fails ≡ [])
  falling_plain [] old k alive = (refl, refl)
  falling_plain (x ∷ xs) [] k alive = (refl, refl)
  falling_plain (x ∷ []) (y ∷ ys) k alive = (refl, refl)
  falling_plain (x ∷ z ∷ xs) (y ∷ ys) k alive = (refl, append_none _ (falling_plain (z ∷ xs) ys _ alive).1)
    where
      append_none : (l : List ℕ) → l ≡ [] → (l ++ []) ≡ []
      append_none l e = ap (λ (m : List ℕ). m ++ []) e

  shaped_plain : (new old : List ℕ) (k test alive : ℕ)
      → ((shaped new old k test alive).alive ≡ alive) × ((shaped new old k test alive).fails ≡ [])
  shaped_plain [] [] k test alive = (refl, refl)
  shaped_plain [] (y ∷ ys) k test alive = (refl, refl)
  shaped_plain (x ∷ xs) [] k test alive = (refl, refl)
  shaped_plain (x ∷ xs) (y ∷ ys) k test alive = shaped_plain xs ys _ (suc k) alive

  module _ (new old : List ℕ) (k alive : ℕ) where
    abbrev A : Piece ℕ
    A = falling new old k alive

    abbrev B : Piece ℕ
    B = shaped new old (after k A) A.out alive

    pub lower_is : (vs ws : List Value) → AreValues ρ new vs → AreValues ρ old ws → Made k (lower new old k alive)
        → bit (ρ (lower new old k alive).out) ≡ is_below ctors vs ws
    lower_is vs ws a b h =
        shaped_is new old vs ws a b (after k A) A.out alive (made_right ctors missing ρ k A B h)
        ∙ ap (λ q. q && of_one_shape ctors vs ws)
        (falling_is new old vs ws a b k alive (made_left ctors missing ρ k A B h))
        ∙ and_swap (falls vs ws) (of_one_shape ctors vs ws)

    pub lower_alive : (lower new old k alive).alive ≡ alive
    lower_alive = (shaped_plain new old (after k A) A.out alive).0

    pub lower_fails : AllOf (Off ρ) (lower new old k alive).fails
    lower_fails =
        subst (λ (l : List ℕ). AllOf (Off ρ) (l ++ B.fails)) (sym (falling_plain new old k alive).1)
        (subst (λ (l : List ℕ). AllOf (Off ρ) l) (sym (shaped_plain new old (after k A) A.out alive).1) tt)

  -- ---- frames

  -- the numbers of a frame's values
  abbrev pub IsFrame : Frame → run.Frame → Type 0
  IsFrame None None = Unit {0}
  IsFrame None (Some vs) = ⊥
  IsFrame (Some ks) None = ⊥
  IsFrame (Some ks) (Some vs) = AreValues ρ ks vs

  module _ (asked : Option CheckId) where
    module _ (c : CheckId) (old new : List ℕ) (k alive : ℕ) where
      abbrev L : Piece ℕ
      L = lower new old k alive

      abbrev D : Piece ℕ
      D = demand (asks asked (Some c)) (after k L) L.alive L.out

      compared_quiet : Made k (joined L D) → Off ρ alive → IsQuiet ρ (joined L D)
      compared_quiet h off =
          let dead : Off ρ L.alive = ap (λ n. bit (ρ n)) (lower_alive new old k alive) ∙ off in
          quiet_bind ρ L D (record { alive = dead; fails = lower_fails new old k alive })
          (λ d. demand_quiet ctors missing ρ (asks asked (Some c)) (after k L) L.alive L.out
          (made_right ctors missing ρ k L D h) d)

      compared_by : Made k (joined L D) → On ρ alive → (t : Bool) → bit (ρ L.out) ≡ t
          → IsTold ρ asked (λ (n : ℕ) (u : Unit {0}). Unit {0}) (joined L D) (either t (Ok tt) (Err (Fails c)))
      compared_by h on true is =
          let live : On ρ L.alive = ap (λ n. bit (ρ n)) (lower_alive new old k alive) ∙ on in
          let d = demand_on ctors missing ρ (asks asked (Some c)) (after k L) L.alive L.out
          (made_right ctors missing ρ k L D h) live is in
          told_after ρ asked L D (Ok tt) (lower_fails new old k alive) (record { told = (d.0, d.1, tt) })
      compared_by h on false is =
          let live : On ρ L.alive = ap (λ n. bit (ρ n)) (lower_alive new old k alive) ∙ on in
          let d = demand_off ctors missing ρ (asks asked (Some c)) (after k L) L.alive L.out
          (made_right ctors missing ρ k L D h) live is in
          told_after ρ asked L D (Err (Fails c)) (lower_fails new old k alive) (record { told = d })

    -- the comparison tells whether the run goes on
    pub descending_told : (check : Option CheckId) (old new : Frame) (vs ws : run.Frame) → IsFrame old vs
        → IsFrame new ws → (k alive : ℕ)
        → Made k (descending asked check old new k alive) → On ρ alive
        → IsTold ρ asked (λ (n : ℕ) (u : Unit {0}). Unit {0}) (descending asked check old new k alive)
        (descends ctors check vs ws)
    descending_told None old new vs ws a b k alive h on = record { told = (on, tt, tt) }
    descending_told (Some c) None new None ws a b k alive h on = record { told = (on, tt, tt) }
    descending_told (Some c) (Some old) None (Some vs) None a b k alive h on = record { told = (on, tt, tt) }
    descending_told (Some c) (Some old) (Some new) (Some vs) (Some ws) a b k alive h on =
        compared_by c old new k alive h on (is_below ctors ws vs)
        (lower_is new old k alive ws vs b a
        (made_left ctors missing ρ k (L c old new k alive) (D c old new k alive) h))
    descending_told (Some c) None new (Some vs) ws a b k alive h on = absurd a
    descending_told (Some c) (Some old) new None ws a b k alive h on = absurd a
    descending_told (Some c) (Some old) None (Some vs) (Some ws) a b k alive h on = absurd b
    descending_told (Some c) (Some old) (Some new) (Some vs) None a b k alive h on = absurd b

    pub descending_quiet : (check : Option CheckId) (old new : Frame) (k alive : ℕ)
        → Made k (descending asked check old new k alive) → Off ρ alive
        → IsQuiet ρ (descending asked check old new k alive)
    descending_quiet None old new k alive h off = quiet_plain ρ [] alive alive off
    descending_quiet (Some c) None new k alive h off = quiet_plain ρ [] alive alive off
    descending_quiet (Some c) (Some old) None k alive h off = quiet_plain ρ [] alive alive off
    descending_quiet (Some c) (Some old) (Some new) k alive h off = compared_quiet c old new k alive h off
