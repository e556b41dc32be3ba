-- The ends of a check by the proof of a round that was searched, and the round after it.
use Rattle.std.proofs.Common.{◌≡◌, ◌∙◌, ℕ, ◌+◌, ◌≤◌, Bool, true, false, refl, sym, ap, arith, below_more, inl, inr}
use Rattle.std.specs.Prelude.{List, Some, All, nat_eq, if◌then◌else◌}
use Rattle.std.proofs.lemmas.Bool.{eq-eqb, eqb-true, false≢true}
use Rattle.std.proofs.lemmas.List.Elements.{All-weaker}
use Rattle.pp_clause.specs.declared.spent.Spent.{Spent}
use Rattle.pp_clause.specs.Literal.{Literal}
use Rattle.pp_estimate_laws.proofs.Estimates.{grows_with_depth}
use Rattle.pp_evidence.specs.Evidence.{IsAmong, IsProofEvidence, IsSpentQuery}
use Rattle.pp_induct.specs.declared.ends.CheckEnd.TheVariants.{Open, Proved}
use Rattle.pp_induct.specs.declared.ends.Why.TheVariants.{Lemmas, Rounds}
use Rattle.pp_induct.specs.declared.limits.Limits.{Limits}
use Rattle.pp_induct.specs.Reports.{IsEnd, IsNotPlain, IsOutOfProof, IsSearchedTo}
use Rattle.pp_induction.specs.Ends.{GuessFails, NoGuessFails}
use Rattle.pp_prog.specs.declared.id.CheckId.{CheckId}
use Rattle.pp_prog.specs.declared.program.Program.{Program}
use Rattle.pp_prog.specs.Cone.{IsWordFunction}
use Rattle.pp_verify.specs.declared.progress.Progress.{Progress}
use Rattle.pp_verify.specs.declared.progress.Step.TheVariants.{Ended, Next}
use Rattle.pp_verify.specs.Rounds.{HasCome, HasSearchedBefore, StepGives, step_after}

-- a query of few variables is one of more
among_more : (n m : ℕ) → n ≤ m → (ls : List Literal) → All (IsAmong n) ls → All (IsAmong m) ls
among_more n m le ls few = All-weaker (IsAmong n) (IsAmong m) (λ l h. omega (arith, le, h)) ls few

spent_among_more : (n m lemmas : ℕ) (s : Spent) → n ≤ m → IsSpentQuery n lemmas s → IsSpentQuery m lemmas s
spent_among_more n m lemmas s le h = record {
  log = h.log;
  clauses = All-weaker (λ ls. All (IsAmong n) ls) (λ ls. All (IsAmong m) ls) (among_more n m le) s.clauses h.clauses;
  assumptions = among_more n m le s.assumptions h.assumptions;
}

-- the proof of a round is asked at depth 1, where its estimate is the least
pub evidence_at : (p : Program) (i : ℕ) (c : CheckId) (round depth lemmas : ℕ) (s : Spent) → 1 ≤ depth
    → IsProofEvidence p i c round 1 lemmas s → IsProofEvidence p i c round depth lemmas s
evidence_at p i c round depth lemmas s le h = record {
  spent = spent_among_more _ _ lemmas s (grows_with_depth p.types p.functions p.checks c.0 round 1 depth le) h.spent;
  found = h.found;
  words = h.words;
}

module _ {p : Program} {limits : Limits} {i : ℕ} {c : CheckId} {round : ℕ} (searched : IsSearchedTo p limits i c round)
  where
    pub proved_by : NoGuessFails p i c round → IsEnd p limits i c (Proved round)
    proved_by guesses = record {
      tried = record { round = searched.begun.round; size = inl searched.begun.size };
      proved = record { guesses = guesses; runs = searched.none };
      open_still = searched.open_still;
    }

    pub open_by_proof : (s : Spent) → 1 ≤ limits.depth → IsNotPlain p c → IsProofEvidence p i c round 1 limits.lemmas s
        → IsEnd p limits i c (Open (Some round) (Lemmas s))
    open_by_proof s least not_plain evidence = (
      searched,
      inr out,
      λ word. inl out,
    )
      where
        out : IsOutOfProof p limits i c round s
        out = record {
          not_plain = not_plain;
          evidence = evidence_at p i c round limits.depth limits.lemmas s least evidence;
        }

    pub one_more_searched : HasSearchedBefore p limits i c round → IsNotPlain p c
        → (IsWordFunction p.types p.functions i → GuessFails p i c round) → HasSearchedBefore p limits i c (round + 1)
    one_more_searched before not_plain guessed = record {
      each = below_more (IsSearchedTo p limits i c) round before.each searched;
      not_plain = λ first. not_plain;
      guessed = λ word. below_more (GuessFails p i c) round (before.guessed word) (guessed word);
    }

-- what follows a round that ended nothing
pub after_gives : (p : Program) (limits : Limits) (progress : Progress) → HasCome p limits progress
    → HasSearchedBefore p limits progress.function.0 progress.check (progress.round + 1)
    → StepGives p limits progress (step_after limits progress)
after_gives p limits progress come more = by (nat_eq progress.round limits.rounds) refl
  where
    further : Progress
    further = record { function = progress.function; check = progress.check; round = progress.round + 1 }

    by : (b : Bool) → nat_eq progress.round limits.rounds ≡ b
        → StepGives p limits progress (if b then Ended (Open (Some progress.round) Rounds) else Next further)
    by true e = (
      more.each progress.round (omega arith),
      (ap Some (eqb-true progress.round limits.rounds e), more.not_plain (omega arith)),
      λ word. more.guessed word progress.round (omega arith),
    )
    by false e =
        let differ : progress.round ≡ limits.rounds → ⊥ =
        λ h. false≢true (sym e ∙ eq-eqb progress.round limits.rounds h) in
        record {
          function = refl;
          check = refl;
          round = refl;
          come = record { own = come.own; round = omega (arith, come.round, differ); before = more };
        }
