use Rattle.std.proofs.Common.{◌≡◌, ◌+◌, ◌<◌, ℕ, length, sym, ap, ◌∙◌, subst, arith}
use Rattle.std.specs.Prelude.{List, Some, slice_get}
use Rattle.std.proofs.lemmas.List.{length_push}
use Rattle.pp_translation.specs.Numbers.{count_of, first_of}
use Rattle.pp_typed.specs.Sorted.{ctors_of}
use Rattle.pp_numbers.proofs.Counts.{first_more}
use Rattle.pp_numbers.proofs.Turns.{firsts_turn}
use Rattle.pp_numbers.proofs.tables.firsts_of.Goals as goal

pub overflow_add-first : goal.overflow_add-first
overflow_add-first c =
    let all = c.args.ctors.now in
    let m = c.index-roots-i.result in
    let more = first_more all c.args.roots.now c.loop-i.i m c.loop-i-test.true c.index-roots-i.is in
    let few = c.requires.few_firsts (c.loop-i.i + 1) in
    let count : c.count_of-first.result ≡ count_of all m =
    c.count_of-first.ensures ∙ ap (λ r. length (ctors_of all r)) c.number_of.ensures
    ∙ ap (count_of all) (sym c.index-roots-i.is) in
    let so_far = c.loop-i.invariant.first in
    omega arith

pub loop-i-preserved : goal.loop-i-preserved
loop-i-preserved c =
    let all = c.args.ctors.now in
    let roots = c.args.roots.now in
    let m = c.index-roots-i.result in
    let i = c.loop-i.i in
    let count : c.count_of-first.result ≡ count_of all m =
    c.count_of-first.ensures ∙ ap (λ r. length (ctors_of all r)) c.number_of.ensures
    ∙ ap (count_of all) (sym c.index-roots-i.is) in
    let one = firsts_turn (first_of all roots) c.loop-i.firsts i c.loop-i.first c.loop-i.invariant.sized
    c.loop-i.invariant.first c.loop-i.invariant.each in
    record {
      sized = ap length c.in_ok-push.ensures.ok ∙ length_push c.loop-i.firsts c.loop-i.first
          ∙ ap (λ n. n + 1) c.loop-i.invariant.sized;
      each = subst (λ (l : List ℕ). (d : ℕ) → d < i + 1 → slice_get l d ≡ Some (first_of all roots d))
          (sym c.in_ok-push.ensures.ok) one;
      first = ap (λ n. n + c.count_of-first.result) c.loop-i.invariant.first ∙ ap (λ n. first_of all roots i + n) count
          ∙ sym (first_more all roots i m c.loop-i-test.true c.index-roots-i.is);
    }

pub returns : goal.returns
returns c = λ d le.
    let all = c.args.ctors.now in
    let roots = c.args.roots.now in
    let i = c.loop-i.i in
    let one = firsts_turn (first_of all roots) c.loop-i.firsts i c.loop-i.first c.loop-i.invariant.sized
    c.loop-i.invariant.first c.loop-i.invariant.each in
    ap (λ l. slice_get l d) c.in_ok-push-2.ensures.ok ∙ one d (omega arith)
