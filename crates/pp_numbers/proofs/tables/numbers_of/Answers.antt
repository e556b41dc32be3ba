use Rattle.std.proofs.Common.{◌≡◌, ◌<◌, ◌≤◌, ℕ, List, length, map, sym, ap, ◌∙◌, arith, subst}
use Rattle.std.specs.Prelude.{Some, slice_get}
use Rattle.std.proofs.lemmas.List.{length-map}
use Rattle.pp_instances.specs.declared.member.Decl.TheVariants.{Function, Root}
use Rattle.pp_instances.specs.declared.member.Member.{Member}
use Rattle.pp_numbers.proofs.Counts.{count_at_most}
use Rattle.pp_numbers.specs.Tables.{AreRanks}
use Rattle.pp_typed.specs.declared.typed.TypedCtor.{TypedCtor}
use Rattle.pp_translation.specs.Numbers.{first_of, stands_for}
use Rattle.pp_numbers.proofs.tables.numbers_of.Goals as goal

abbrev FirstsAre : List TypedCtor → List Member → List ℕ → Type 0
FirstsAre all roots firsts = (d : ℕ) → d ≤ length roots → slice_get firsts d ≡ Some (first_of all roots d)

pub returns-clause-tables : goal.returns-clause-tables
returns-clause-tables c =
    let all = c.args.typed.now.ctors in
    let roots = map (stands_for Root) c.args.roots.now in
    let are = c.in_ok-roots.ensures in
    let r = ap length are ∙ length-map c.args.roots.now (stands_for Root) in
    let f = ap length c.in_ok-functions.ensures ∙ length-map c.args.functions.now (stands_for Function) in
    let few_r = c.requires.few.0 in
    let few_f = c.requires.few.1 in
    let h = c.in_ok-firsts.ensures in
    let k = c.in_ok-ranks.ensures in
    record {
      few_roots = omega arith;
      few_functions = omega arith;
      firsts = subst (λ (l : List Member). FirstsAre all l c.in_ok-firsts.firsts) c.as_slice-2.ensures.all
          (subst (λ (l : List TypedCtor). FirstsAre l c.as_slice-2.result.now c.in_ok-firsts.firsts) c.as_slice.ensures
          h);
      ranks = subst (λ (l : List TypedCtor). AreRanks l c.in_ok-ranks.ranks) c.as_slice-3.ensures k;
      few_firsts = λ d. subst (λ (l : List Member). first_of all l d < 2147483648) (sym are)
          (c.requires.room.few_firsts d);
      few_ranks = λ d q at. (let most = count_at_most all d q.root in let few = c.requires.room.few_ctors q.root in
          omega arith);
    }
