-- The constructors of a datatype: they are as many as it counts, and what fits them by places fits the datatype.
use Rattle.std.proofs.Common.{◌≡◌, ℕ, zero, suc, ◌+◌, ◌^◌, ◌<◌, ◌≤◌, nat_le, true, List, length, take, drop, Option}
use Rattle.std.proofs.Common.{Some, None}
use Rattle.std.proofs.Common.{refl, ap, ◌∙◌, subst, arith, slice_get}
use Rattle.std.proofs.lemmas.Bool.{and_from, le-leb, lt-ltb}
use Rattle.std.proofs.lemmas.List.{length-drop, length-take}
use Rattle.std.proofs.lemmas.Option.{slice_get_within}
use Rattle.pp_prog.specs.declared.id.DataId.{DataId}
use Rattle.pp_prog.specs.declared.types.Ctor.{Ctor}
use Rattle.pp_prog.specs.declared.types.Datatype.{Datatype}
use Rattle.pp_prog.specs.declared.types.TypeTable.{TypeTable}
use Rattle.pp_prog.specs.Sizes.{ctors_in, ctors_of}
use Rattle.pp_prog.specs.Table.{in_block, is_of}
use Rattle.pp_gate.specs.declared.gate.Gate.{Gate}
use Rattle.pp_gate.proofs.Places.{at_some}
use Rattle.pp_prog.specs.declared.id.CtorId.{CtorId}
use Rattle.pp_bounded_trees.proofs.Candidates.{ctor_in_block}
use Rattle.pp_named_trees.specs.declared.arena.Alternative.{Alternative}
use Rattle.pp_named_trees.specs.Parts.{PartsFit}
use Rattle.pp_named_contents.specs.Contents.{PartFitsAt}
use Rattle.pp_named_contents.specs.Fitting.{CtorFits}
use Rattle.pp_named_contents.specs.FreshContents.{ctor_from, fields_at, sorts_from}

module _ (types : TypeTable) (d : DataId) (t : Datatype) (is : slice_get types.datatypes d.0 ≡ Some t) where
  -- the whole block is there
  block_within : (n : ℕ) → t.count ≡ suc n → t.first.0 + n < length types.ctors
  block_within n e =
      let inside : in_block t (t.first.0 + n) ≡ true =
      and_from (nat_le t.first.0 (t.first.0 + n)) _ (le-leb t.first.0 (t.first.0 + n) (omega arith))
      (lt-ltb (t.first.0 + n) (t.first.0 + t.count) (omega arith)) in
      there (t.first.0 + n) (slice_get types.ctors (t.first.0 + n)) refl
      (types.agree.block d.0 t is (t.first.0 + n) inside)
    where
      there : (c : ℕ) (o : Option Ctor) → slice_get types.ctors c ≡ o → is_of d.0 o ≡ true → c < length types.ctors
      there c None at h = cc
      there c (Some k) at h = slice_get_within types.ctors c k at

  pub block_length : length (ctors_of types d) ≡ t.count
  block_length = ap (λ (o : Option Datatype). length (ctors_in types.ctors o)) is ∙ whole t.count refl
    where
      whole : (n : ℕ) → t.count ≡ n → length (take t.count (drop t.first.0 types.ctors)) ≡ t.count
      whole zero e = omega (arith, e, length-take t.count (drop t.first.0 types.ctors))
      whole (suc n) e =
          omega (
            arith,
            e,
            block_within n e,
            length-take t.count (drop t.first.0 types.ctors),
            length-drop t.first.0 types.ctors,
          )

  pub block_small : 1 ≤ t.count → t.first.0 + t.count ≤ 2 ^ 32
  block_small some = by t.count refl
    where
      by : (n : ℕ) → t.count ≡ n → t.first.0 + t.count ≤ 2 ^ 32
      by zero e = absurd (omega (arith, e, some))
      by (suc n) e = omega (arith, e, block_within n e, types.few_ctors)

pub ctor_fits : (types : TypeTable) (hs : List Gate) (of : DataId) (t : Datatype)
    → slice_get types.datatypes of.0 ≡ Some t → (j : ℕ) (x : Alternative) → j < length (ctors_of types of)
    → PartFitsAt hs (ctor_from t.first.0 j) (sorts_from (ctors_of types of) j) x → CtorFits hs types t j x
ctor_fits types hs of t is j x lt part =
    let k = at_some (ctors_of types of) j lt in
    let own = ctor_in_block types of t j k.0 is k.1 in
    let number : x.ctor.0 ≡ t.first.0 + j = ap (λ (c : CtorId). c.0) part.ctor in record {
      ctor = number;
      lit = part.lit;
      entry = k.0;
      at = ap (slice_get types.ctors) number ∙ own.0;
      fields = subst (λ ss. PartsFit hs ss x.fields) (ap fields_at k.1) part.fields;
      blank = part.blank;
    }
