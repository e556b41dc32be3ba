use Rattle.std.proofs.Common.{List, ◌≡◌, ◌<◌, ◌∙◌, length, get_or, subst, sym, ap, max}
use Rattle.pp_prog.specs.declared.types.Ctor.{Ctor}
use Rattle.pp_symbolic.specs.Naming.{count_fields}
use Rattle.pp_symbolic.proofs.Names.{most_more}
use Rattle.pp_symbolic.proofs.naming.widest.Goals as goal

pub loop-ctor-preserved : goal.loop-ctor-preserved
loop-ctor-preserved c =
    let same = c.loop-ctor.invariant.items in
    let i = c.loop-ctor.ctor-index in
    let k = c.ctor-item.result in
    record {
      items = same;
      most = c.max-most.ensures ∙ ap (λ n. max c.loop-ctor.most n) (ap length c.as_slice.ensures)
          ∙ ap (λ n. max n (count_fields k)) c.loop-ctor.invariant.most
          ∙ sym (most_more c.args.table.now.ctors i k
          (subst (λ (l : List Ctor). i < length l) same c.loop-ctor-test.true)
          (subst (λ (l : List Ctor). k ≡ get_or l i k) same c.ctor-item.is));
    }
