use Rattle.std.proofs.Common.{◌≡◌, ◌+◌, ◌≤◌, ◌↔◌, ◌∷◌, ◌++◌, [], IsTrue, Bool, true, false, length, List, ℕ, subst, sym}
use Rattle.std.proofs.Common.{◌∙◌}
use Rattle.pp_instances.specs.Closure.{at_first, has_none}
use Rattle.pp_instances.specs.Growth.{HasFunction}
use Rattle.pp_instances.specs.Uses.{start, at_ints}
use Rattle.pp_instances.specs.declared.member.Member.{Member}
use Rattle.pp_instances.proofs.Grown.{cause, over_at, start_bursts, stage_start, fill_some, none_yet, defined, Filling}
use Rattle.pp_instances.proofs.closure.instances.Goals as goal
use Rattle.pp_instances.proofs.closure.instances.Goals.{then-not-has_function+in-Ok-fill, else-not-has_function}

absent : (xs ys : List Member) (f : ℕ) (r : Bool) → xs ≡ ys → IsTrue r ↔ HasFunction xs f → r ≡ false → HasFunction ys f
    → ⊥
absent xs ys f r e h n k = let x : false ≡ true = sym n ∙ h.1 (subst (λ l. HasFunction l f) (sym e) k) in cc

present : (xs ys : List Member) (f : ℕ) (r : Bool) → xs ≡ ys → IsTrue r ↔ HasFunction xs f → r ≡ true → HasFunction ys f
present xs ys f r e h t = subst (λ l. HasFunction l f) e (h.0 t)

pub returns-in-Err-clause-closed : goal.returns-in-Err-clause-closed
returns-in-Err-clause-closed c =
    let typed = c.args.typed.now in
    cause typed (λ b. over_at typed 0 (start typed) at_first (start_bursts typed (start typed) b)) c.in-Err.e
    c.in-Err.ensures.gains

pub returns-in-Err-close-clause-closed : goal.returns-in-Err-close-clause-closed
returns-in-Err-close-clause-closed c =
    let typed = c.args.typed.now in
    cause typed (over_at typed 0 (start typed) at_first) c.in-Err-close.e
    (c.in-Err-close.ensures.closed (start typed)
    (stage_start typed (start typed) c.include_start.new.members c.in-Ok.ensures.gains))

pub loop-f-init : goal.loop-f-init
loop-f-init c =
    let typed = c.args.typed.now in
    record {
      filling = (
        start typed,
        (
          at_first,
          c.in-Ok-close.ensures.closed (start typed)
              (stage_start typed (start typed) c.include_start.new.members c.in-Ok.ensures.gains),
        ),
      );
      few = c.in-Ok-close.ensures.few;
    }

pub returns-in-Err-fill-clause-closed : goal.returns-in-Err-fill-clause-closed
returns-in-Err-fill-clause-closed c =
    let typed = c.args.typed.now in
    let f = c.loop-f.f in
    let z = c.loop-f.invariant.filling in
    let missing : HasFunction c.loop-f.members f → ⊥ =
    absent c.as_slice.result.now c.loop-f.members f c.has_function.result c.as_slice.ensures.all
    c.has_function.ensures c.if-not-has_function.true in
    let d = c.index-defs-f.result in
    let more = has_none f z.0 d z.1.0 (none_yet typed f z.0 c.loop-f.members z.1.1 missing)
    (defined typed c.as_slice-defs.result.now f d c.as_slice-defs.ensures c.loop-f-test.true c.index-defs-f.is) in
    cause typed (over_at typed (f + 1) (z.0 ++ at_ints f d ∷ []) more) c.in-Err-fill.e
    (c.in-Err-fill.ensures.closed z.0 z.1.1)

pub loop-f-preserved : goal.loop-f-preserved
loop-f-preserved c =
    let typed = c.args.typed.now in
    let f = c.loop-f.f in
    let z = c.loop-f.invariant.filling in
    elim c.if-not-has_function.branch [
      | then-not-has_function+in-Ok-fill w ↦
          let missing : HasFunction c.loop-f.members f → ⊥ =
          absent c.as_slice.result.now c.loop-f.members f c.has_function.result c.as_slice.ensures.all
          c.has_function.ensures w.if-not-has_function.true in
          let d = w.index-defs-f.result in
          let more = has_none f z.0 d z.1.0 (none_yet typed f z.0 c.loop-f.members z.1.1 missing)
          (defined typed c.as_slice-defs.result.now f d c.as_slice-defs.ensures c.loop-f-test.true
          w.index-defs-f.is) in
          record {
            filling = subst (Filling typed (f + 1)) (sym w.members-is)
                (z.0 ++ at_ints f d ∷ [], (more, w.in-Ok-fill.ensures.closed z.0 z.1.1));
            few = subst (λ l. length l ≤ 512) (sym w.members-is) w.in-Ok-fill.ensures.few;
          }
      | else-not-has_function w ↦
          record {
            filling = subst (Filling typed (f + 1)) (sym w.members-is)
                (fill_some typed f c.loop-f.members z
                (present c.as_slice.result.now c.loop-f.members f c.has_function.result c.as_slice.ensures.all
                c.has_function.ensures w.if-not-has_function.false));
            few = subst (λ l. length l ≤ 512) (sym w.members-is) c.loop-f.invariant.few;
          }
    ]
