use Rattle.std.proofs.Common.{◌≡◌, ◌∙◌, false, true, sym}
use Rattle.pp_checks.proofs.Ruling.{shape_is}
use Rattle.pp_checks.proofs.rules.has_shape.Goals as goal

pub returns : goal.returns
returns c =
    let told = c.is_shape.ensures in
    let one = c.as_slice.ensures in
    let shape = shape_is c.args.program.now.types c.args.program.now.functions c.args.f.0 c.first_measured.result.0
    c.args.function.now c.function-first.result.now c.as_slice.result.now c.as_slice-2.result.now
    (one ∙ c.in_ok-sorts.ensures) (λ e. let no : false ≡ true = sym c.if-is_empty.false
    ∙ c.is_empty.ensures.1 (sym one ∙ e) in cc) (c.as_slice-2.ensures
    ∙ c.in_ok-expected.ensures) c.first_measured.ensures c.function-first.ensures in
    (λ t. shape.0 (told.0 t), λ s. told.1 (shape.1 s))
