use Rattle.std.proofs.Common.{◌≡◌, refl, ◌∙◌, sym, subst, Contains, ⊎_elim, true, false}
use Rattle.std.proofs.lemmas.List.{take_all}
use Rattle.pp_prog.specs.Values.{IsBelow, is_field, is_deeper}
use Rattle.pp_prog.proofs.Values.{none_more, below_tree, contains_read}
use Rattle.pp_prog.proofs.value.Value.+is_below.Goals as goal
use Rattle.pp_prog.proofs.value.Value.+is_below.Goals.{then-same-via-then-same, then-same-via-else-same+then-is_below}

pub returns-then-same : goal.returns-then-same
returns-then-same t c =
    let has = subst (λ l. Contains l c.field-item.result) c.as_slice-field-items.ensures
    (contains_read c.as_slice-field-items.result.now c.loop-field.field-index c.field-item.result
    c.loop-field-test.true c.field-item.is) in (
      λ _. elim c.then-same.branch [
        | then-same-via-then-same w ↦
            subst (λ v. IsBelow v c.args.other.now) (sym (c.same.ensures.0 w.if-same.true))
            (is_field c.in-Tree.field-0 c.in-Tree.fields c.in-Tree.is has)
        | then-same-via-else-same+then-is_below w ↦
            is_deeper c.in-Tree.field-0 c.in-Tree.fields c.in-Tree.is has (w.is_below.ensures.0 w.if-is_below.true)
      ],
      λ _. refl,
    )

pub loop-field-preserved : goal.loop-field-preserved
loop-field-preserved t c =
    none_more (λ v. (c.args.self.now ≡ v → ⊥) × (IsBelow c.args.self.now v → ⊥)) c.as_slice-field-items.result.now
    c.loop-field.field-index c.field-item.result c.loop-field-test.true c.field-item.is (
      λ e. let no : false ≡ true = sym c.if-same.false ∙ c.same.ensures.1 e in cc,
      λ b. let no : false ≡ true =
          sym c.if-is_below.false ∙ c.is_below.ensures.1 b in cc,
    ) c.loop-field.invariant

pub returns-after-loop-field : goal.returns-after-loop-field
returns-after-loop-field t c = (
  λ h. let no : false ≡ true = h in cc,
  λ b. absurd (
      let p = below_tree c.args.self.now c.args.other.now c.in-Tree.field-0 c.in-Tree.fields c.in-Tree.is b in
      let e = take_all c.loop-field.field-index c.as_slice-field-items.result.now c.loop-field-test.false
      ∙ c.as_slice-field-items.ensures in
      let no = c.loop-field.invariant p.0 (subst (λ l. Contains l p.0) (sym e) p.1) in
      ⊎_elim no.0 no.1 p.2),
)
