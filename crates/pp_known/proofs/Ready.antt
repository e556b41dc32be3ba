-- What is known of each instance of a function before it is translated.
use Rattle.std.proofs.Common.{◌≡◌, ℕ, eqb, List, length, sym, ap, ◌∙◌, subst, eq-eqb, arith}
use Rattle.std.specs.Prelude.{◌↔◌, IsTrue, Some, Contains, slice_get}
use Rattle.std.proofs.lemmas.Bool.{eqb-true}
use Rattle.std.proofs.lemmas.List.{length-map}
use Rattle.std.proofs.lemmas.Option.{slice_get_within}
use Rattle.pp_graph.proofs.Paths.{one_number}
use Rattle.pp_instances.specs.Uses.{function_at, text_mentions}
use Rattle.pp_instances.specs.declared.member.Instance.{Instance}
use Rattle.pp_instances.specs.declared.member.Member.{Member}
use Rattle.pp_known.proofs.Known.{signature_at, signature_of_member}
use Rattle.pp_known.proofs.Listed.{args_have_types, text_within}
use Rattle.pp_known.proofs.Places.{HasAt, at_within}
use Rattle.pp_known.specs.SettingOf.{AreTranslated, IsSettingOf}
use Rattle.pp_members.proofs.Sorts.{all_at}
use Rattle.pp_prog.specs.Calls.{OneGroup, call_table, function_calls}
use Rattle.pp_prog.specs.Valid.{has_measure, has_precondition}
use Rattle.pp_prog.specs.declared.expr.Function.{Function as ProgramFunction}
use Rattle.pp_translation.specs.Numbered.{has_measure as has_typed_measure, has_pre, is_written, same_number}
use Rattle.pp_translation.specs.Numbers.{function_number}
use Rattle.pp_translation.specs.Setting.{Setting}
use Rattle.pp_translation.specs.declared.frame.CheckAt.{CheckAt}
use Rattle.pp_translation.specs.declared.frame.Frame.{Frame}
use Rattle.pp_typed.specs.WellSorted.{IsDef}
use Rattle.pp_typed.specs.declared.sort.GenericSort.{GenericSort}
use Rattle.pp_typed.specs.declared.typed.Typed.{Typed}
use Rattle.pp_typed.specs.declared.typed.TypedDef.{TypedDef}
use Rattle.pp_validity.proofs.Known.{HasTypes, IsGrouped}
use Rattle.pp_validity.proofs.Whole.{IsReady}
use Rattle.pp_validity.proofs.Within.{Within}

module _ (typed : Typed) (ms : List Member) (fs rs : List Instance) (set : Setting) (s : IsSettingOf typed ms fs rs set)
    (texts : List (List ℕ)) (all : List ProgramFunction) (cs : List CheckAt)
    (t : AreTranslated typed texts fs set all cs) where
  has_group : (n : ℕ) (g : ProgramFunction) → slice_get all n ≡ Some g → HasAt set.groups n
  has_group n g at =
      let size : length (call_table all) ≡ length all = length-map all function_calls in
      at_within set.groups n (omega (arith, t.groups.size, slice_get_within all n g at))

  -- two functions have one number of a group exactly where they are of one group
  one_group : (n m : ℕ) (g h : ProgramFunction) → slice_get all n ≡ Some g → slice_get all m ≡ Some h
      → IsTrue (same_number (slice_get set.groups n) (slice_get set.groups m)) ↔ OneGroup all n m
  one_group n m g h at_n at_m =
      let a = has_group n g at_n in
      let b = has_group m h at_m in
      let one = one_number (call_table all) n m a.x b.x (t.groups.each n a.x a.at) (t.groups.each m b.x b.at) in
      let numbers : same_number (slice_get set.groups n) (slice_get set.groups m) ≡ eqb a.x b.x =
      ap (λ o. same_number o (slice_get set.groups m)) a.at ∙ ap (same_number (Some a.x)) b.at in
      (λ yes. one.0 (eqb-true a.x b.x (sym numbers ∙ yes)), λ same. numbers ∙ eq-eqb a.x b.x (one.1 same))

  -- the function of a member has a precondition where its instance has
  same_pre : (f : ℕ) (d : TypedDef) (args : List GenericSort) → slice_get typed.defs f ≡ Some d
      → Contains ms (function_at f args)
      → has_precondition (slice_get all (function_number set.functions f args).0) ≡ has_pre (slice_get typed.defs f)
  same_pre f d args at has =
      let m = signature_of_member typed ms fs rs set s texts all cs t f d args at has in
      ap has_precondition m.is.found ∙ m.is.pre ∙ sym (ap has_pre at)

  -- and a measure
  same_measure : (f : ℕ) (d : TypedDef) (args : List GenericSort) → slice_get typed.defs f ≡ Some d
      → Contains ms (function_at f args)
      → has_measure (slice_get all (function_number set.functions f args).0)
      ≡ has_typed_measure (slice_get typed.defs f)
  same_measure f d args at has =
      let m = signature_of_member typed ms fs rs set s texts all cs t f d args at has in
      ap has_measure m.is.found ∙ m.is.measure ∙ sym (ap has_typed_measure at)

  module _ (own : Frame) (i : Instance) (d : TypedDef) (at : slice_get fs own.number ≡ Some i)
      (at_def : slice_get typed.defs i.number ≡ Some d)
      (args : own.args ≡ i.args) (measured : own.measured ≡ is_written d.measure) where
    grouped : IsGrouped typed set ms all own
    grouped =
        let here = signature_at typed ms fs rs set s texts all cs t own.number i d at at_def in
        record {
          pres = same_pre;
          measures = same_measure;
          measured = measured ∙ sym (ap has_measure here.found ∙ here.measure);
          grouped = λ g h at_g. one_group own.number g here.g h here.found at_g;
        }

    -- an instance of a function is ready to be translated
    pub ready : IsReady typed set texts all ms own d
    ready =
        let has = s.listed.functions.only own.number i at in
        record {
          def = all_at (IsDef typed) typed.defs i.number d s.well.defs at_def;
          within =
              subst (λ (l : List GenericSort). Within ms l (text_mentions d)) (sym args)
              (text_within typed ms fs rs set s i.number d i.args at_def has);
          types = subst (λ (l : List GenericSort). (p : GenericSort) → Contains l p → HasTypes ms p) (sym args)
              (args_have_types typed ms fs rs set s (function_at i.number i.args) has);
          grouped = grouped;
        }
