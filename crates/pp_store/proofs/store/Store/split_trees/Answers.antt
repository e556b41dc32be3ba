use Rattle.std.proofs.Common.{◌∙◌, ℕ, ap, sym, refl}
use Rattle.pp_prog.proofs.Values.{ctor_same}
use Rattle.pp_prog.specs.declared.id.CtorId.{CtorId}
use Rattle.pp_prog.specs.declared.value.Value.TheVariants as value
use Rattle.pp_store.specs.declared.held.Held.TheVariants as held
use Rattle.pp_store.specs.declared.same.Pair.{Pair}
use Rattle.pp_store.specs.Values.{value_of, values_of}
use Rattle.pp_store.proofs.Pairs.{ctors_differ, same_lengths, split_fields, split_leaf}
use Rattle.pp_store.proofs.store.Store.split_trees.Goals as goal
use Rattle.pp_store.proofs.store.Store.split_trees.Goals.{then-x-y-via-then-x-y, then-x-y-via-else-x-y+then-x-y-2}

pub returns-then-t-u : goal.returns-then-t-u
returns-then-t-u c =
    split_leaf c.args.self.now (record { left = held.Tree c.args.t; right = held.Tree c.args.u }) c.args.pending.now _
    (λ _. ap (λ (k : ℕ). value_of c.args.self.now (held.Tree k)) c.if-t-u.true) (λ _. refl)

pub returns-then-x-y : goal.returns-then-x-y
returns-then-x-y c =
    let p : Pair = record { left = held.Tree c.args.t; right = held.Tree c.args.u } in
    λ same. elim c.then-x-y.branch [
      | then-x-y-via-then-x-y w ↦
          w.if-x-y.true
          (ap (λ (d : CtorId). d.0)
          (ctors_differ c.args.self.now p c.parts-x.result.ctor c.parts-y.result.ctor c.parts-x.result.fields.now
          c.parts-y.result.fields.now c.parts-x.ensures.value c.parts-y.ensures.value same))
      | then-x-y-via-else-x-y+then-x-y-2 w ↦
          w.if-x-y-2.true
          (same_lengths c.args.self.now p c.parts-x.result.ctor c.parts-y.result.ctor c.parts-x.result.fields.now
          c.parts-y.result.fields.now c.parts-x.ensures.value c.parts-y.ensures.value same)
    ]

pub returns : goal.returns
returns c =
    let ctors = ctor_same c.parts-x.result.ctor c.parts-y.result.ctor c.if-x-y.false in
    split_fields c.args.self.now (record { left = held.Tree c.args.t; right = held.Tree c.args.u }) c.args.pending.now
    c.push_pairs.new.pending c.parts-x.result.ctor c.parts-x.result.fields.now c.parts-y.result.fields.now
    c.parts-x.ensures.value
    (c.parts-y.ensures.value
    ∙ ap (λ (d : CtorId). value.Tree d (values_of c.args.self.now c.parts-y.result.fields.now)) (sym ctors))
    c.if-x-y-2.false c.parts-x.ensures.held c.parts-y.ensures.held c.in_ok-push_pairs.ensures
