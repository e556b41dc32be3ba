-- The ends of the first checks.
use Rattle.std.proofs.Common.{◌≡◌, ◌∙◌, ℕ, ◌+◌, ◌<◌, List, [], ◌∷◌, ◌++◌, Some, None, inl, inr, length, slice_get}
use Rattle.std.proofs.Common.{get_or, refl, sym, ap, subst}
use Rattle.std.proofs.lemmas.Option.{slice_get-get_or}
use Rattle.pp_prog.specs.declared.check.Check.{Check}
use Rattle.std.proofs.lemmas.List.{length-append}
use Rattle.pp_gate.proofs.Places.{at_push}
use Rattle.pp_prog.specs.declared.program.Program.{Program}
use Rattle.pp_induct.specs.declared.ends.CheckEnd.{CheckEnd}
use Rattle.pp_induct.specs.declared.limits.Limits.{Limits}
use Rattle.pp_induct.specs.Reports.{AreEnds, IsEnd}
use Rattle.pp_sound.specs.Sound.{IsCheckOf}

-- there is an end for each of the first n checks, and what it says holds
pub record AreEndsTo (p : Program) (limits : Limits) (n : ℕ) (ends : List CheckEnd) : Type 0 where
  pub size : length ends ≡ n
  pub each : AreEnds p limits ends

-- no end yet
pub no_ends : (p : Program) (limits : Limits) (ends : List CheckEnd) → ends ≡ [] → AreEndsTo p limits 0 ends
no_ends p limits ends none =
    subst (AreEndsTo p limits 0) (sym none)
    (record { size = refl; each = λ c other e here there. let past : None ≡ Some e = there in cc })

-- one more end, of the next check
pub one_more_end : (p : Program) (limits : Limits) (n i : ℕ) (ends more : List CheckEnd) (end : CheckEnd)
    → AreEndsTo p limits n ends → IsCheckOf p i n → IsEnd p limits i (record { 0 = n }) end
    → more ≡ ends ++ end ∷ [] → AreEndsTo p limits (n + 1) more
one_more_end p limits n i ends more end known own is grown = record {
  size = ap length grown ∙ length-append ends (end ∷ []) ∙ ap (λ k. k + 1) known.size;
  each = λ c other e here there.
      elim (at_push ends end c e (subst (λ l. slice_get l c ≡ Some e) grown there)) [
        | inl old ↦ known.each c other e here old
        | inr new ↦
            let last : c ≡ n = new.0 ∙ known.size in
            let both : Some other ≡ Some own.check = sym here ∙ ap (slice_get p.checks) last ∙ own.listed in
            let same : other ≡ own.check = cc in
            subst (λ k. IsEnd p limits k (record { 0 = c }) e) (sym (ap (λ x. x.function.0) same ∙ own.owner))
            (subst (λ k. IsEnd p limits i (record { 0 = k }) e) (sym last)
            (subst (IsEnd p limits i (record { 0 = n })) new.1 is))
      ];
}

-- the check that is read at a place of the list belongs to its function
pub check_at : (p : Program) (checks : List Check) (n : ℕ) (d : Check) → checks ≡ p.checks → n < length checks
    → IsCheckOf p (get_or checks n d).function.0 n
check_at p checks n d same lt = record {
  check = get_or checks n d;
  listed = ap (λ l. slice_get l n) (sym same) ∙ slice_get-get_or checks n d lt;
  owner = refl;
}
