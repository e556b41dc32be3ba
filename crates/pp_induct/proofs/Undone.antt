-- Functions with checks that ended neither Proved nor Exhausted, by their marks.
use Rattle.std.proofs.Common.{◌≡◌, ◌↔◌, ◌⊎◌, ℕ, Bool, List, Some, length, refl, sym, ◌∙◌, inl, inr}
use Rattle.std.proofs.Common.{⊎_elim, IsTrue, MatchOption, Option, None, is_some, true, false}
use Rattle.pp_prog.specs.declared.check.Check.{Check}
use Rattle.pp_prog.specs.declared.id.CheckId.{CheckId}
use Rattle.pp_prog.specs.declared.program.Program.{Program}
use Rattle.pp_induct.specs.declared.concluding.Unsettled.{Unsettled}
use Rattle.pp_induct.specs.declared.concluding.Unsettled.TheVariants as way
use Rattle.pp_induct.specs.declared.ends.CheckEnd.{CheckEnd}
use Rattle.pp_induct.specs.declared.ends.CheckEnd.TheVariants as end
use Rattle.pp_induct.specs.Concluding.{EndedBy, IsMarkedIn, IsOf, MarkUndone}
use Rattle.pp_induct.specs.Verdicts.{AreDone, HasUndone, IsFirst, IsInvalidEnd, IsOpenEnd, IsProvedOrExhausted}
use Rattle.pp_induct.specs.Verdicts.{IsUndone, IsUndoneIn, Never}

-- an end is one of the two, or one of the other two
pub done_or : (e : CheckEnd) → IsProvedOrExhausted e ⊎ (IsInvalidEnd e ⊎ IsOpenEnd e)
done_or (end.Proved n) = inl (inl (n, refl))
done_or (end.Exhausted n) = inl (inr (n, refl))
done_or (end.Invalid args n) = inr (inl (args, n, refl))
done_or (end.Open searched why) = inr (inr (searched, why, refl))

-- and not one of both
invalid_undone : (e : CheckEnd) → IsInvalidEnd e → IsUndone e
invalid_undone e invalid (inl proved) =
    let no : end.Invalid invalid.0 invalid.1 ≡ end.Proved proved.0 = sym invalid.2 ∙ proved.1 in cc
invalid_undone e invalid (inr exhausted) =
    let no : end.Invalid invalid.0 invalid.1 ≡ end.Exhausted exhausted.0 = sym invalid.2 ∙ exhausted.1 in cc

open_undone : (e : CheckEnd) → IsOpenEnd e → IsUndone e
open_undone e is (inl proved) =
    let no : end.Open is.0 is.1 ≡ end.Proved proved.0 = sym is.2 ∙ proved.1 in cc
open_undone e is (inr exhausted) =
    let no : end.Open is.0 is.1 ≡ end.Exhausted exhausted.0 = sym is.2 ∙ exhausted.1 in cc

pub of_undone : (w : Unsettled) (e : CheckEnd) → IsOf w e → IsUndone e
of_undone way.Invalid e h = invalid_undone e h
of_undone way.Open e h = open_undone e h

module _ (checks : List Check) (ends : List CheckEnd) (f : ℕ) where
  pub ended_undone : (w : Unsettled) (c : ℕ) → EndedBy checks ends w f c → HasUndone checks ends f
  ended_undone w c h = (
    c,
    record {
      check = h.check;
      listed = h.listed;
      owner = h.owner;
      how = h.how;
      at = h.at;
      so = of_undone w h.how h.so;
    },
  )

  -- a check that is undone ended Invalid, or Open
  pub undone_ended : HasUndone checks ends f
      → ((c : ℕ) × EndedBy checks ends way.Invalid f c) ⊎ ((c : ℕ) × EndedBy checks ends way.Open f c)
  undone_ended u =
      let h = u.1 in
      ⊎_elim (λ d. absurd (h.so d))
      (λ o. ⊎_elim
      (λ i. inl (
        u.0,
        record {
          check = h.check;
          listed = h.listed;
          owner = h.owner;
          how = h.how;
          at = h.at;
          so = i;
        },
      ))
      (λ i. inr (
        u.0,
        record {
          check = h.check;
          listed = h.listed;
          owner = h.owner;
          how = h.how;
          at = h.at;
          so = i;
        },
      )) o) (done_or h.how)

  -- where none ended Invalid, there is such a check exactly where one ended Open
  pub undone_told : (i o : Option CheckId) (b t : Bool)
      → MatchOption i (Never (EndedBy checks ends way.Invalid f))
      (λ c. IsFirst (EndedBy checks ends way.Invalid f) c.0)
      → MatchOption o (Never (EndedBy checks ends way.Open f)) (λ c. IsFirst (EndedBy checks ends way.Open f) c.0)
      → b ≡ is_some i → t ≡ is_some o → b ≡ false → IsTrue t ↔ HasUndone checks ends f
  undone_told (Some c) o b t invalid opened is such none = let no : false ≡ true = sym none ∙ is in cc
  undone_told None None b t invalid opened is such none = (
    λ h. (let no : false ≡ true = sym such ∙ h in cc),
    λ u. ⊎_elim (λ e. absurd (invalid e.0 e.1)) (λ e. absurd (opened e.0 e.1)) (undone_ended u),
  )
  undone_told None (Some c) b t invalid opened is such none =
      (λ h. ended_undone way.Open c.0 opened.has, λ u. such)

module _ (p : Program) (ends : List CheckEnd) (marks : List Bool)
    (marked : MarkUndone p ends marks (length p.functions)) (f : ℕ) where
  -- where no function of the cone is marked, all its checks are done
  pub all_done : Never (IsMarkedIn p marks f) → AreDone p ends f
  all_done none g c check e cone listed owner at = by (done_or e)
    where
      by : IsProvedOrExhausted e ⊎ (IsInvalidEnd e ⊎ IsOpenEnd e) → IsProvedOrExhausted e
      by (inl d) = d
      by (inr o) =
          let undone : IsUndone e = ⊎_elim (invalid_undone e) (open_undone e) o in
          absurd (none g (
            cone,
            (marked.each g cone.0).1 (
              c,
              record {
                check = check;
                listed = listed;
                owner = owner;
                how = e;
                at = at;
                so = undone;
              },
            ),
          ))

  -- the first that is marked is the first that has such a check
  pub first_has : (g : ℕ) → IsFirst (IsMarkedIn p marks f) g → IsFirst (IsUndoneIn p ends f) g
  first_has g k = record {
    has = (k.has.0, (marked.each g k.has.0.0).0 k.has.1);
    first = λ h less u. k.first h less (u.0, (marked.each h u.0.0).1 u.1);
  }
