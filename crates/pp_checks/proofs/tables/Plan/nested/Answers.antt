use Rattle.std.proofs.Common.{◌∙◌, List, Option, ℕ, slice_get, ap, sym}
use Rattle.pp_checks.specs.Plan.{Plan}
use Rattle.pp_checks.specs.Tables.{is_at_most}
use Rattle.pp_checks.proofs.Plans.{nested_told}
use Rattle.pp_checks.proofs.tables.Plan.nested.Goals as goal

pub returns : goal.returns
returns c program p lt =
    let t = nested_told c.args.self.now program p c.args.f.0 c.args.round lt in
    let depths = c.as_slice.ensures ∙ ap (λ (p : Plan). p.nestings) c.self.view_is in
    let within = c.is_within.ensures
    ∙ ap (λ (l : List (Option ℕ)). is_at_most (slice_get l c.args.f.0) c.args.round) depths in
    (λ h. t.0 (sym within ∙ h), λ k. within ∙ t.1 k)
