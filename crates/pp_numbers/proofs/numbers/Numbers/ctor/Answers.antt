use Rattle.std.proofs.Common.{slice_index_or, ◌≡◌, ◌+◌, ℕ, length, sym, ap, ◌∙◌, arith}
use Rattle.std.proofs.lemmas.Option.{slice_get_within}
use Rattle.pp_numbers.proofs.Found.{read_at}
use Rattle.pp_translation.specs.Numbers.{ctor_if, first_of, rank_of}
use Rattle.pp_instances.specs.Same.{place_of}
use Rattle.pp_instances.specs.Uses.{root_at}
use Rattle.pp_prog.specs.declared.id.CtorId.{CtorId}
use Rattle.pp_numbers.proofs.numbers.Numbers.ctor.Goals as goal

pub bounds-as_slice-c : goal.bounds-as_slice-c
bounds-as_slice-c c =
    let k = c.in-Some.k.now in
    let rank = c.requires.held.ranks c.args.c k (sym c.in-Some.ensures) in
    let within = slice_get_within c.args.self.now.ranks c.args.c (rank_of c.args.ctors.now c.args.c k) rank in
    let same = ap length c.as_slice.ensures in
    omega arith

pub overflow_add-result : goal.overflow_add-result
overflow_add-result c =
    let k = c.in-Some.k.now in
    let rank = c.requires.held.ranks c.args.c k (sym c.in-Some.ensures) in
    let few = c.requires.held.few_ranks c.args.c k (sym c.in-Some.ensures) in
    let value = read_at c.args.self.now.ranks c.args.c (rank_of c.args.ctors.now c.args.c k) rank in
    let same = ap (λ l. slice_index_or l c.args.c 0) c.as_slice.ensures in
    omega (arith, c.first-first.ensures.few)

pub returns-in-Some : goal.returns-in-Some
returns-in-Some c =
    let all = c.args.ctors.now in
    let roots = c.args.self.now.roots in
    let k = c.in-Some.k.now in
    let at = sym c.in-Some.ensures in
    let rank = read_at c.args.self.now.ranks c.args.c (rank_of all c.args.c k) (c.requires.held.ranks c.args.c k at) in
    let read = ap (λ l. slice_index_or l c.args.c 0) c.as_slice.ensures in
    let first : c.first-first.result ≡ first_of all roots (place_of roots (root_at k.root c.args.args)) =
    c.first-first.ensures.value ∙ ap (λ d. first_of all roots d.0) c.datatype.ensures.value in
    let both : c.first-first.result + slice_index_or c.as_slice.result.now c.args.c 0 ≡ first_of all roots
    (place_of roots (root_at k.root c.args.args)) + rank_of all c.args.c k =
    ap (λ n. n + slice_index_or c.as_slice.result.now c.args.c 0) first
    ∙ ap (λ n. first_of all roots (place_of roots (root_at k.root c.args.args)) + n) (read ∙ rank) in
    let made : ℕ → CtorId = λ n. record { 0 = n } in
    ap made both ∙ sym (ap (ctor_if all roots c.args.c c.args.args) at)
