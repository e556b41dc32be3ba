use Rattle.std.proofs.Common.{◌≡◌, ◌+◌, ◌<◌, ℕ, List, length, length-set, take, sym, ap, ◌∙◌, subst, arith}
use Rattle.std.specs.Prelude.{Some, slice_get}
use Rattle.std.proofs.lemmas.List.{length_push}
use Rattle.std.proofs.lemmas.List.Elements.{All-get_or}
use Rattle.std.proofs.lemmas.Option.{same_Some, slice_get_within}
use Rattle.pp_numbers.specs.Tables.{IsOneOf}
use Rattle.pp_numbers.proofs.Counts.{count_at_most}
use Rattle.pp_numbers.proofs.Turns.{counted_turn, ranked_turn}
use Rattle.pp_translation.specs.Numbers.{rank_of}
use Rattle.pp_typed.specs.Sorted.{ctors_of}
use Rattle.pp_typed.specs.declared.typed.TypedCtor.{TypedCtor}
use Rattle.pp_numbers.proofs.tables.ranks_of.Goals as goal

pub bump-requires : goal.bump-requires
bump-requires c = λ n at.
    let all = c.args.ctors.now in
    let k = c.c-item.result in
    let own : k.root < c.args.roots =
    subst (IsOneOf c.args.roots) (sym c.c-item.is)
    (All-get_or (IsOneOf c.args.roots) all c.loop-c.c-index k c.loop-c-test.true c.requires.owned) in
    let is = same_Some n (length (ctors_of (take c.loop-c.c-index all) k.root))
    (sym at ∙ c.loop-c.invariant.counted k.root own) in
    let most = count_at_most all c.loop-c.c-index k.root in
    let few = c.requires.few k.root in
    omega arith

pub loop-c-preserved : goal.loop-c-preserved
loop-c-preserved c =
    let all = c.args.ctors.now in
    let k = c.c-item.result in
    let i = c.loop-c.c-index in
    let counts = c.loop-c.counts in
    let own : k.root < c.args.roots =
    subst (IsOneOf c.args.roots) (sym c.c-item.is)
    (All-get_or (IsOneOf c.args.roots) all i k c.loop-c-test.true c.requires.owned) in
    let sized = c.loop-c.invariant.counts in
    let within : k.root < length counts = omega arith in
    let new = c.bump.ensures.after within in
    let was : c.bump.result ≡ length (ctors_of (take i all) k.root) =
    same_Some c.bump.result (length (ctors_of (take i all) k.root))
    (sym (c.bump.ensures.before within) ∙ c.loop-c.invariant.counted k.root own) in
    let pushed = c.in_ok-push.ensures.ok in
    let each = counted_turn all c.args.roots i k counts c.bump.result c.loop-c-test.true c.c-item.is sized own
    c.loop-c.invariant.counted was in
    let ranked = ranked_turn all i k c.loop-c.ranks c.bump.result c.loop-c-test.true c.c-item.is
    c.loop-c.invariant.ranks was c.loop-c.invariant.ranked in
    record {
      counts = ap length new ∙ length-set counts k.root (c.bump.result + 1) ∙ sized;
      counted = subst (λ (l : List ℕ). (r : ℕ) → r < c.args.roots
          → slice_get l r ≡ Some (length (ctors_of (take (i + 1) all) r))) (sym new) each;
      ranks = ap length pushed ∙ length_push c.loop-c.ranks c.bump.result ∙ ap (λ n. n + 1) c.loop-c.invariant.ranks;
      ranked = subst (λ (l : List ℕ). (d : ℕ) (q : TypedCtor) → d < i + 1 → slice_get all d ≡ Some q
          → slice_get l d ≡ Some (rank_of all d q)) (sym pushed) ranked;
    }

pub returns : goal.returns
returns c = λ d k at.
    let within = slice_get_within c.args.ctors.now d k at in
    c.loop-c.invariant.ranked d k (omega arith) at
