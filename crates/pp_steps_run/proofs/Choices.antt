-- Demands, tests and choices.
use Rattle.std.proofs.Common.{◌≡◌, ℕ, suc, List, ◌∷◌, Bool, true, false, Option, Some, None, Ok, Err, refl, ap, ◌∙◌}
use Rattle.std.specs.Prelude.{not, ◌&&◌, if◌then◌else◌}
use Rattle.std.proofs.lemmas.Bool.{and_from}
use Rattle.pp_prog.specs.declared.id.CheckId.{CheckId}
use Rattle.pp_prog.specs.declared.types.Ctor.{Ctor}
use Rattle.pp_prog.specs.declared.value.Value.{Value}
use Rattle.pp_prog.specs.declared.value.Value.TheVariants.{Bool as Truth}
use Rattle.pp_eval.specs.Part.{Part}
use Rattle.pp_steps.specs.declared.step.Step.TheVariants as steps
use Rattle.pp_steps.specs.Meaning.{Missing, Obeys, Values, bit}
use Rattle.pp_steps.specs.Compile.{unless, when}
use Rattle.pp_steps.specs.Piece.{Piece, after, choice, demand, pick_step, picked}
use Rattle.pp_steps_run.specs.Told.{AllOf, Flags, IsMade, IsQuiet, IsTold, IsValue, MayBe, Off, On, here, looked}
use Rattle.pp_steps_run.proofs.Pieces.{all_join, bit_truth, flags_left, flags_right, obeys_left}
use Rattle.pp_steps_run.proofs.Pieces.{obeys_right}

pub both_left : (a b : Bool) → a ≡ false → (a && b) ≡ false
both_left false b h = refl
both_left true b h = cc

pub both_right : (a b : Bool) → b ≡ false → (a && b) ≡ false
both_right true b h = h
both_right false b h = refl

pub if_true : {A : Type 0} (t : Bool) (a b v : A) → v ≡ (if t then a else b) → t ≡ true → v ≡ a
if_true true a b v h e = h
if_true false a b v h e = absurd (cc)

pub if_false : {A : Type 0} (t : Bool) (a b v : A) → v ≡ (if t then a else b) → t ≡ false → v ≡ b
if_false true a b v h e = absurd (cc)
if_false false a b v h e = h

module _ (ctors : List Ctor) (missing : Missing) (ρ : Values) where
  abbrev pub Made : {A : Type 0} → ℕ → Piece A → Type 0
  Made k x = IsMade ctors missing ρ k x

  both_is : (k a b : ℕ) → ρ k ≡ Truth (bit (ρ a) && bit (ρ b)) → bit (ρ k) ≡ (bit (ρ a) && bit (ρ b))
  both_is k a b h = ap bit h ∙ bit_truth _

  not_is : (k a : ℕ) → ρ k ≡ Truth (not (bit (ρ a))) → bit (ρ k) ≡ not (bit (ρ a))
  not_is k a h = ap bit h ∙ bit_truth _

  -- where both numbers are true
  pub when_on : (k alive test : ℕ) → Made k (when k alive test) → On ρ alive → On ρ test → On ρ k
  when_on k alive test h a t = both_is k alive test h.steps.0 ∙ and_from _ _ a t

  pub when_dead : (k alive test : ℕ) → Made k (when k alive test) → Off ρ alive → Off ρ k
  when_dead k alive test h a = both_is k alive test h.steps.0 ∙ both_left _ _ a

  pub when_off : (k alive test : ℕ) → Made k (when k alive test) → Off ρ test → Off ρ k
  when_off k alive test h t = both_is k alive test h.steps.0 ∙ both_right _ _ t

  -- where the first is true and the second isn't
  pub unless_on : (k alive test : ℕ) → Made k (unless k alive test) → On ρ alive → Off ρ test → On ρ (suc k)
  unless_on k alive test h a t =
      both_is (suc k) alive k h.steps.1.0 ∙ and_from _ _ a (not_is k test h.steps.0 ∙ ap not t)

  pub unless_dead : (k alive test : ℕ) → Made k (unless k alive test) → Off ρ alive → Off ρ (suc k)
  unless_dead k alive test h a = both_is (suc k) alive k h.steps.1.0 ∙ both_left _ _ a

  pub unless_off : (k alive test : ℕ) → Made k (unless k alive test) → On ρ test → Off ρ (suc k)
  unless_off k alive test h t =
      both_is (suc k) alive k h.steps.1.0 ∙ both_right _ _ (not_is k test h.steps.0 ∙ ap not t)

  -- ---- demands

  pub demand_on : (b : Bool) (k alive test : ℕ) → Made k (demand b k alive test) → On ρ alive → On ρ test
      → On ρ (demand b k alive test).alive × AllOf (Off ρ) (demand b k alive test).fails
  demand_on true k alive test h a t = (
    both_is k alive test h.steps.0 ∙ and_from _ _ a t,
    (
      both_is (suc (suc k)) alive (suc k) h.steps.1.1.0 ∙ both_right _ _
          (not_is (suc k) test h.steps.1.0 ∙ ap not t),
      tt,
    ),
  )
  demand_on false k alive test h a t = (both_is k alive test h.steps.0 ∙ and_from _ _ a t, tt)

  pub demand_off : (b : Bool) (k alive test : ℕ) → Made k (demand b k alive test) → On ρ alive → Off ρ test
      → Off ρ (demand b k alive test).alive × Flags ρ b (demand b k alive test).fails
  demand_off true k alive test h a t = (
    both_is k alive test h.steps.0 ∙ both_right _ _ t,
    here (both_is (suc (suc k)) alive (suc k) h.steps.1.1.0 ∙ and_from _ _ a
        (not_is (suc k) test h.steps.1.0 ∙ ap not t)),
  )
  demand_off false k alive test h a t = (both_is k alive test h.steps.0 ∙ both_right _ _ t, tt)

  pub demand_quiet : (b : Bool) (k alive test : ℕ) → Made k (demand b k alive test) → Off ρ alive
      → IsQuiet ρ (demand b k alive test)
  demand_quiet true k alive test h a = record {
    alive = both_is k alive test h.steps.0 ∙ both_left _ _ a;
    fails = (both_is (suc (suc k)) alive (suc k) h.steps.1.1.0 ∙ both_left _ _ a, tt);
  }
  demand_quiet false k alive test h a = record { alive = both_is k alive test h.steps.0 ∙ both_left _ _ a; fails = tt }

  -- ---- choices

  -- what the values of a choice between two pieces are, the steps of which follow them
  module _ (k taken : ℕ) (x : Piece ℕ) (y : Piece (Option ℕ)) where
    abbrev pub last : ℕ
    last = after (after k x) y

    abbrev pub Chosen : Piece ℕ
    Chosen = choice last taken x y

    pub choice_first : Made k Chosen → Made k x
    choice_first h = record {
      steps = obeys_left ctors missing ρ k x.steps _ h.steps;
    }

    pub choice_second : Made k Chosen → Made (after k x) y
    choice_second h = record {
      steps = obeys_left ctors missing ρ (after k x) y.steps _ (obeys_right ctors missing ρ k x.steps _ h.steps);
    }

    abbrev Tail : Type 0
    Tail = Obeys ctors missing ρ last (steps.Choose taken x.alive y.alive ∷ pick_step taken x.out y.out)

    tail : Made k Chosen → Tail
    tail h = obeys_right ctors missing ρ (after k x) y.steps _ (obeys_right ctors missing ρ k x.steps _ h.steps)

    picked_first : (o : Option ℕ) → Obeys ctors missing ρ (suc last) (pick_step taken x.out o) → On ρ taken
        → ρ (picked (suc last) x.out o) ≡ ρ x.out
    picked_first None h t = refl
    picked_first (Some n) h t = if_true _ _ _ _ h.0 t

    picked_second : (o : Option ℕ) → Obeys ctors missing ρ (suc last) (pick_step taken x.out o) → Off ρ taken
        → (v : Value)
        → MayBe ρ o v → ρ (picked (suc last) x.out o) ≡ v
    picked_second None h t v m = absurd m
    picked_second (Some n) h t v m = if_false _ _ _ _ h.0 t ∙ m

    module _ (asked : Option CheckId) where
      pub choice_left : (part : Part Value) → Made k Chosen → On ρ taken → IsTold ρ asked (IsValue ρ) x part
          → AllOf (Off ρ) y.fails → IsTold ρ asked (IsValue ρ) Chosen part
      choice_left (Ok v) h t g q =
          let w = tail h in
          record {
            told = (
              ap bit (if_true _ _ _ _ w.0 t) ∙ g.told.0,
              all_join
                  (Off ρ) x.fails y.fails g.told.1 q,
              picked_first y.out w.1 t ∙ g.told.2,
            );
          }
      choice_left (Err s) h t g q =
          let w = tail h in
          record {
            told = (
              ap bit (if_true _ _ _ _ w.0 t) ∙ g.told.0,
              flags_left ρ
                  (looked asked s) x.fails y.fails g.told.1 q,
            );
          }

      pub choice_right : (part : Part Value) → Made k Chosen → Off ρ taken → AllOf (Off ρ) x.fails
          → IsTold ρ asked (MayBe ρ) y part → IsTold ρ asked (IsValue ρ) Chosen part
      choice_right (Ok v) h t q g =
          let w = tail h in
          record {
            told = (
              ap bit (if_false _ _ _ _ w.0 t) ∙ g.told.0,
              all_join
                  (Off ρ) x.fails y.fails q g.told.1,
              picked_second y.out w.1 t v g.told.2,
            );
          }
      choice_right (Err s) h t q g =
          let w = tail h in
          record {
            told = (
              ap bit (if_false _ _ _ _ w.0 t) ∙ g.told.0,
              flags_right ρ
                  (looked asked s) x.fails y.fails q g.told.1,
            );
          }

    pub choice_quiet : Made k Chosen → Off ρ taken → IsQuiet ρ x → IsQuiet ρ y → IsQuiet ρ Chosen
    choice_quiet h t q r = record {
      alive = ap bit (if_false _ _ _ _ (tail h).0 t) ∙ r.alive;
      fails = all_join (Off ρ) x.fails y.fails q.fails r.fails;
    }
