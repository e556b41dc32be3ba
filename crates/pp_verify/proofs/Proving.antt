-- Ends of checks, of which more and more are proved.
use Rattle.std.proofs.Common.{◌≡◌, ◌∙◌, ℕ, ◌<◌, Bool, List, Option, Some, inl, inr, length, slice_get}
use Rattle.std.proofs.Common.{slice_set, refl, sym, ap, subst, arith}
use Rattle.std.proofs.lemmas.Bool.Decides.{eqb_tells}
use Rattle.std.proofs.lemmas.List.{length-set}
use Rattle.std.proofs.lemmas.Option.{same_Some, slice_get_within}
use Rattle.pp_gate.proofs.Places.{at_some}
use Rattle.pp_prog.specs.declared.check.Check.{Check}
use Rattle.pp_prog.specs.declared.program.Program.{Program}
use Rattle.pp_induct.specs.declared.ends.CheckEnd.{CheckEnd}
use Rattle.pp_induct.specs.declared.ends.CheckEnd.TheVariants.{Proved, Open}
use Rattle.pp_induct.specs.declared.ends.Why.TheVariants.{Size}
use Rattle.pp_induct.specs.declared.limits.Limits.{Limits}
use Rattle.pp_induct.specs.Reports.{AreEnds, IsEnd, IsProvedIn}
use Rattle.pp_sound.specs.Sound.{IsCheckOf}
use Rattle.pp_verify.specs.Cones.{AreKeptOrProved, IsKeptOrProved}
use Rattle.pp_verify.specs.GivenUp.{HasProof, HoldsOfOthers, IsAsked, IsGivenUp, IsLargeAt}
use Rattle.pp_verify.proofs.Written.{at_other, at_written}

module _ (p : Program) (limits : Limits) (before : List CheckEnd) where
  -- some of the ends are proved by now, and the others are kept
  pub record AreProvedBy (after : List CheckEnd) : Type 0 where
    pub size : length after ≡ length p.checks
    pub ends : AreEnds p limits after
    pub kept : AreKeptOrProved limits before after

  pub none_proved : length before ≡ length p.checks → AreEnds p limits before → AreProvedBy before
  none_proved size are = record { size = size; ends = are; kept = λ c. inl refl }

  -- one more: that of check number n
  module _ (marks : List Bool) (others : HoldsOfOthers p before (HasProof p limits) (length p.checks) marks) (n i : ℕ)
      (own : IsCheckOf p i n) (after more : List CheckEnd) (so : AreProvedBy after) (asked : IsAsked after marks i n)
      (is : more ≡ slice_set after n (Proved limits.rounds)) where
    inside : n < length p.checks
    inside = slice_get_within p.checks n own.check own.listed

    -- it was open by its size in the beginning too
    was_large : (searched : Option ℕ) × (slice_get before n ≡ Some (Open searched Size))
    was_large = by (so.kept n)
      where
        large : IsLargeAt after n
        large = asked.0

        now : slice_get after n ≡ Some (Open large.2.0 Size)
        now = large.1 ∙ ap (λ (e : CheckEnd). Some e) large.2.1

        by : IsKeptOrProved limits (slice_get before n) (slice_get after n)
            → (searched : Option ℕ) × (slice_get before n ≡ Some (Open searched Size))
        by (inl same) = (large.2.0, sym same ∙ now)
        by (inr proved) =
            let no : Some (Proved limits.rounds) ≡ Some (Open large.2.0 Size) = sym proved.2 ∙ now in
            let not : Proved limits.rounds ≡ Open large.2.0 Size = same_Some _ _ no in cc

    is_proved : IsProvedIn p limits i (record { 0 = n }) limits.rounds
    is_proved =
        subst (λ (j : ℕ). IsProvedIn p limits j (record { 0 = n }) limits.rounds) own.owner
        (elim (others n own.check (Open was_large.0 Size) inside own.listed was_large.1) [
          | inl given ↦ absurd (asked.1 (subst (IsGivenUp marks) own.owner given))
          | inr has ↦ has (was_large.0, refl)
        ])

    abbrev written : List CheckEnd
    written = slice_set after n (Proved limits.rounds)

    now_proved : slice_get written n ≡ Some (Proved limits.rounds)
    now_proved =
        let here = at_some written n (omega (arith, inside, so.size, length-set after n (Proved limits.rounds))) in
        elim (at_written after n (Proved limits.rounds) n here.0 here.1) [
          | inl new ↦ here.1 ∙ ap (λ (e : CheckEnd). Some e) (sym new.1)
          | inr old ↦ absurd (old.0 refl)
        ]

    ends_hold : AreEnds p limits written
    ends_hold c check end listed at = elim (at_written after n (Proved limits.rounds) c end at) [
      | inl new ↦
          let same : check ≡ own.check = same_Some check own.check
          (sym listed ∙ ap (λ (k : ℕ). slice_get p.checks k) new.0 ∙ own.listed) in
          let owner : i ≡ check.function.0 = sym (ap (λ (k : Check). k.function.0) same ∙ own.owner) in
          subst (λ (e : CheckEnd). IsEnd p limits check.function.0 (record { 0 = c }) e) new.1
          (subst (λ (k : ℕ). IsProvedIn p limits check.function.0 (record { 0 = k }) limits.rounds) (sym new.0)
          (subst (λ (j : ℕ). IsProvedIn p limits j (record { 0 = n }) limits.rounds) owner is_proved))
      | inr old ↦ so.ends c check end listed old.1
    ]

    ends_kept : AreKeptOrProved limits before written
    ends_kept c = elim (eqb_tells c n) [
      | inl same ↦
          subst (λ (k : ℕ). IsKeptOrProved limits (slice_get before k) (slice_get written k)) (sym same.1)
          (inr (was_large.0, was_large.1, now_proved))
      | inr differ ↦
          subst (λ (o : Option CheckEnd). IsKeptOrProved limits (slice_get before c) o)
          (sym (at_other after n (Proved limits.rounds) c differ.1)) (so.kept c)
    ]

    pub one_more_proved : AreProvedBy more
    one_more_proved = subst AreProvedBy (sym is)
        (record { size = length-set after n (Proved limits.rounds) ∙ so.size; ends = ends_hold; kept = ends_kept })
