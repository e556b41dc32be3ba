use Rattle.std.proofs.Common.{◌≡◌, ◌+◌, ◌∷◌, [], ◌++◌, take, length, map, sym, ap, ◌∙◌, arith}
use Rattle.pp_instances.specs.declared.member.Decl.TheVariants.{Root}
use Rattle.pp_numbers.proofs.Counts.{datatype_is, datatypes_turn, first_turn}
use Rattle.pp_translation.specs.Numbers.{count_of, datatypes_from, first_of, stands_for}
use Rattle.pp_typed.specs.Sorted.{ctors_of}
use Rattle.pp_prog.specs.declared.types.Datatype.{Datatype}
use Rattle.pp_numbers.proofs.ctors.datatypes_of.Goals as goal

pub overflow_add-first : goal.overflow_add-first
overflow_add-first c =
    let all = c.args.typed.now.ctors in
    let r = c.index-roots-i.result in
    let more = first_turn all c.args.roots.now c.loop-i.i r c.loop-i-test.true c.index-roots-i.is in
    let few = c.requires.few_firsts (c.loop-i.i + 1) in
    let count : c.count_of-count.result ≡ count_of all (stands_for Root r) =
    c.count_of-count.ensures ∙ ap (λ l. length (ctors_of l r.number)) c.as_slice.ensures in
    let so_far = c.loop-i.invariant.first in
    omega arith

pub loop-i-preserved : goal.loop-i-preserved
loop-i-preserved c =
    let all = c.args.typed.now.ctors in
    let is = c.args.roots.now in
    let i = c.loop-i.i in
    let r = c.index-roots-i.result in
    let first = first_of all (map (stands_for Root) is) i in
    let count : c.count_of-count.result ≡ count_of all (stands_for Root r) =
    c.count_of-count.ensures ∙ ap (λ l. length (ctors_of l r.number)) c.as_slice.ensures in
    let item : Datatype = record {
      name = c.in_ok-of.field-0;
      first = record { 0 = c.loop-i.first };
      count =
          c.count_of-count.result;
    } in
    let same = datatype_is all r c.in_ok-of.field-0 c.loop-i.first c.count_of-count.result first
    (c.in_ok-of.ensures ∙ c.as_str.ensures) c.loop-i.invariant.first count in
    record {
      datatypes = c.in_ok-push.ensures.ok ∙ ap (λ l. l ++ item ∷ []) c.loop-i.invariant.datatypes
          ∙ ap (λ z. datatypes_from all 0 (take i is) ++ z ∷ []) same
          ∙ sym (datatypes_turn all is i r c.loop-i-test.true c.index-roots-i.is);
      first = ap (λ n. n + c.count_of-count.result) c.loop-i.invariant.first ∙ ap (λ n. first + n) count
          ∙ sym (first_turn all is i r c.loop-i-test.true c.index-roots-i.is);
    }
