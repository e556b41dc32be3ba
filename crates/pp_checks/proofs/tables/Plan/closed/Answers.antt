use Rattle.std.proofs.Common.{◌≡◌, ◌∙◌, List, Option, ℕ, true, false, slice_get, ap, sym}
use Rattle.pp_checks.specs.Plan.{Plan}
use Rattle.pp_checks.specs.Tables.{is_at_most}
use Rattle.pp_checks.proofs.Plans.{closed_told}
use Rattle.pp_checks.proofs.tables.Plan.closed.Goals as goal

pub returns-then-is_within : goal.returns-then-is_within
returns-then-is_within c program p lt =
    let t = closed_told c.args.self.now program p c.args.f.0 c.args.round c.args.depth lt in
    let depths = c.as_slice.ensures ∙ ap (λ (p : Plan). p.nestings) c.self.view_is in
    let heights = c.as_slice-then-is_within.ensures ∙ ap (λ (p : Plan). p.tallest) c.self.view_is in
    let nested = ap (λ (l : List (Option ℕ)). is_at_most (slice_get l c.args.f.0) c.args.round) (sym depths)
    ∙ sym c.is_within.ensures ∙ c.if-is_within.true in
    let low = c.is_low.ensures
    ∙ ap (λ (l : List (Option ℕ)). is_at_most (slice_get l c.args.f.0) c.args.depth) heights in
    (λ h. t.0 (nested, sym low ∙ h), λ k. low ∙ (t.1 k).1)

pub returns-else-is_within : goal.returns-else-is_within
returns-else-is_within c program p lt =
    let t = closed_told c.args.self.now program p c.args.f.0 c.args.round c.args.depth lt in
    let depths = c.as_slice.ensures ∙ ap (λ (p : Plan). p.nestings) c.self.view_is in
    let within = c.is_within.ensures
    ∙ ap (λ (l : List (Option ℕ)). is_at_most (slice_get l c.args.f.0) c.args.round) depths in
    (λ h. let no : false ≡ true = sym c.if-is_within.false ∙ h in cc, λ k. within ∙ (t.1 k).0)
