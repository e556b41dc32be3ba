-- The function on which another one depends is the first in its cone of which the text says that it is invalid or open.
use Rattle.std.proofs.Common.{◌≡◌, ◌<◌, ℕ, zero, suc, true, List, [], ◌∷◌, Some, length}
use Rattle.std.proofs.Common.{refl, sym, subst, inl, inr, ◌⊎◌, arith}
use Rattle.std.specs.Prelude.{slice_get}
use Rattle.std.proofs.lemmas.Option.{slice_get_within}
use Rattle.pp_answers.specs.Readings.{IsFirstUnsettled, is_unsettled}
use Rattle.pp_induct.specs.Verdicts.{AreVerdicts, HasUndone, IsInvalidEnd, IsOpenEnd}
use Rattle.pp_induct.specs.Verdicts.{IsUndone, IsVerdict}
use Rattle.pp_induct.specs.declared.ends.CheckEnd.{CheckEnd}
use Rattle.pp_induct.specs.declared.ends.CheckEnd.TheVariants as end
use Rattle.pp_induct.specs.declared.verdict.Verdict.{Verdict}
use Rattle.pp_induct.specs.declared.verdict.Verdict.TheVariants.{Valid, Depends, Invalid, Open}
use Rattle.pp_line_contents.specs.Contents.{Content, depending, failed, left_open, valid}
use Rattle.pp_prog.specs.declared.id.FunctionId.{FunctionId}
use Rattle.pp_prog.specs.declared.program.Program.{Program}

-- the content is said of a function with this verdict
abbrev pub Shows : Content → Verdict → Type 0
Shows (valid checks) v = v ≡ Valid
Shows (depending g checks) v = v ≡ Depends g
Shows (failed c args) v = v ≡ Invalid c
Shows (left_open searched c why) v = v ≡ Open c

-- at each place the content is said of the verdict
pub record ShowEach (cs : List Content) (vs : List Verdict) : Type 0 where
  pub size : length cs ≡ length vs
  pub each : (k : ℕ) (c : Content) (v : Verdict) → slice_get cs k ≡ Some c → slice_get vs k ≡ Some v → Shows c v

-- ---- ends

invalid_undone : (e : CheckEnd) → IsInvalidEnd e → IsUndone e
invalid_undone e is (inl proved) = (let a = is.2 in let b = proved.1 in cc)
invalid_undone e is (inr exhausted) = (let a = is.2 in let b = exhausted.1 in cc)

open_undone : (e : CheckEnd) → IsOpenEnd e → IsUndone e
open_undone e is (inl proved) = (let a = is.2 in let b = proved.1 in cc)
open_undone e is (inr exhausted) = (let a = is.2 in let b = exhausted.1 in cc)

-- an end that is neither proved nor exhausted is invalid or open
undone_either : (e : CheckEnd) → IsUndone e → IsInvalidEnd e ⊎ IsOpenEnd e
undone_either (end.Proved n) undone = absurd (undone (inl (n, refl)))
undone_either (end.Exhausted n) undone = absurd (undone (inr (n, refl)))
undone_either (end.Invalid args n) undone = inl (args, n, refl)
undone_either (end.Open searched why) undone = inr (searched, why, refl)

module _ (p : Program) (ends : List CheckEnd) (vs : List Verdict) (are : AreVerdicts p ends vs) where
  -- where a function has such a check it is invalid or open
  abbrev IsOne : Verdict → Type 0
  IsOne Valid = ⊥
  IsOne (Depends g) = ⊥
  IsOne (Invalid c) = Unit {0}
  IsOne (Open c) = Unit {0}

  none_left : (g : ℕ) (v : Verdict) → g < length p.functions → IsVerdict p ends g v → HasUndone p.checks ends g
      → IsOne v
  none_left g Valid lt is undone =
      let x = undone.1 in
      x.so (is g undone.0 x.check x.how (lt, inl refl) x.listed x.owner x.at)
  none_left g (Depends h) lt is undone =
      by (undone_either undone.1.how undone.1.so)
    where
      by : IsInvalidEnd undone.1.how ⊎ IsOpenEnd undone.1.how → ⊥
      by (inl invalid) = is.0 undone.0 (record {
        check = undone.1.check;
        listed = undone.1.listed;
        owner = undone.1.owner;
        how = undone.1.how;
        at = undone.1.at;
        so = invalid;
      })
      by (inr left) = is.1 undone.0 (record {
        check = undone.1.check;
        listed = undone.1.listed;
        owner = undone.1.owner;
        how = undone.1.how;
        at = undone.1.at;
        so = left;
      })
  none_left g (Invalid c) lt is undone = tt
  none_left g (Open c) lt is undone = tt

  -- and the other way round
  some_left : (g : ℕ) (v : Verdict) → IsVerdict p ends g v → IsOne v → HasUndone p.checks ends g
  some_left g Valid is one = absurd one
  some_left g (Depends h) is one = absurd one
  some_left g (Invalid c) is one =
      let x = is.has in (
        c.0,
        record {
          check = x.check;
          listed = x.listed;
          owner = x.owner;
          how = x.how;
          at = x.at;
          so = invalid_undone x.how x.so;
        },
      )
  some_left g (Open c) is one =
      let x = is.1.has in (
        c.0,
        record {
          check = x.check;
          listed = x.listed;
          owner = x.owner;
          how = x.how;
          at = x.at;
          so = open_undone x.how x.so;
        },
      )

  -- ---- contents

  at_number : {X : Type 0} (xs : List X) (k : ℕ) → k < length xs → (x : X) × (slice_get xs k ≡ Some x)
  at_number [] k lt = absurd (omega (arith, lt))
  at_number (x ∷ xs) zero lt = (x, refl)
  at_number (x ∷ xs) (suc k) lt = at_number xs k (omega (arith, lt))

  one_shown : (c : Content) (v : Verdict) → Shows c v → IsOne v → is_unsettled c ≡ true
  one_shown (valid checks) v is one = absurd (subst IsOne is one)
  one_shown (depending g checks) v is one = absurd (subst IsOne is one)
  one_shown (failed c args) v is one = refl
  one_shown (left_open searched c why) v is one = refl

  shown_one : (c : Content) (v : Verdict) → Shows c v → is_unsettled c ≡ true → IsOne v
  shown_one (valid checks) v is said = cc
  shown_one (depending g checks) v is said = cc
  shown_one (failed c args) v is said = subst IsOne (sym is) tt
  shown_one (left_open searched c why) v is said = subst IsOne (sym is) tt

  module _ (cs : List Content) (show : ShowEach cs vs) where
    -- the verdict at a place, with the content
    verdict_at : (k : ℕ) (c : Content) → slice_get cs k ≡ Some c → (v : Verdict) × (slice_get vs k ≡ Some v) × Shows c v
    verdict_at k c at =
        let lt = slice_get_within cs k c at in
        let v = at_number vs k (let size = show.size in omega (arith, lt, size)) in
        (v.0, v.1, show.each k c v.0 at v.1)

    content_at : (k : ℕ) (v : Verdict) → slice_get vs k ≡ Some v → (c : Content) × (slice_get cs k ≡ Some c) × Shows c v
    content_at k v at =
        let lt = slice_get_within vs k v at in
        let c = at_number cs k (let size = show.size in omega (arith, lt, size)) in
        (c.0, c.1, show.each k c.0 v c.1 at)

    pub first_unsettled : (i : ℕ) (g : FunctionId) (checks : ℕ) → slice_get cs i ≡ Some (depending g checks)
        → IsFirstUnsettled p.functions cs i g.0
    first_unsettled i g checks at =
        let here = verdict_at i (depending g checks) at in
        let is : IsVerdict p ends i (Depends g) = subst (IsVerdict p ends i) here.2 (are.each i here.0 here.1) in
        let found = is.2.has in
        let lt = found.0.0 in
        let own = at_number vs g.0 (let size = are.size in omega (arith, lt, size)) in
        let shown = content_at g.0 own.0 own.1 in
        record {
          reached = found.0.1;
          unsettled = (
            shown.0,
            shown.1,
            one_shown shown.0 own.0 shown.2 (none_left g.0 own.0 lt (are.each g.0 own.0 own.1) found.1),
          );
          first = λ h less reached said.
              let v = verdict_at h said.0 said.1 in
              is.2.first h less (
                (
                  let within =
                      slice_get_within vs h v.0 v.1 in let size = are.size in omega (arith, within, size),
                  reached,
                ),
                some_left h v.0 (are.each h v.0 v.1) (shown_one said.0 v.0 v.2 said.2),
              );
        }
