-- What stands behind a report: behind each end, and behind the verdicts. Source: own.
use Rattle.std.specs.Prelude.{◌≡◌, ◌⊎◌, ◌<◌, ◌≤◌, ℕ, suc, List, Option, Some, None, length, slice_get}
use Rattle.pp_limits.specs.declared.TheConstants.{DEPTH, GATES, LEMMAS, ROUNDS}
use Rattle.pp_clause.specs.declared.spent.Spent.{Spent}
use Rattle.pp_prog.specs.declared.check.Check.{Check}
use Rattle.pp_prog.specs.declared.id.CheckId.{CheckId}
use Rattle.pp_prog.specs.declared.program.Program.{Program}
use Rattle.pp_prog.specs.declared.value.Value.{Value}
use Rattle.pp_prog.specs.Cone.{IsWordFunction}
use Rattle.pp_checks.specs.Closed.{Closed}
use Rattle.pp_checks.specs.Plain.{IsPlain}
use Rattle.pp_estimate.specs.Estimates.{estimate}
use Rattle.pp_evidence.specs.Evidence.{IsProofEvidence, IsSearchEvidence}
use Rattle.pp_sound.specs.Counterexample.{IsCounterexample}
use Rattle.pp_induction.specs.Ends.{GuessFails, IsExhausted, IsProved, NoLowRunFails}
use Rattle.pp_induct.specs.declared.ends.CheckEnd.{CheckEnd}
use Rattle.pp_induct.specs.declared.ends.CheckEnd.TheVariants.{Proved, Exhausted, Invalid, Open}
use Rattle.pp_induct.specs.declared.ends.Why.{Why}
use Rattle.pp_induct.specs.declared.ends.Why.TheVariants.{Rounds, Lemmas, Size}
use Rattle.pp_induct.specs.declared.limits.TheConstants.{FRONTED_ABOVE}
use Rattle.pp_induct.specs.declared.limits.Limits.{Limits}
use Rattle.pp_induct.specs.declared.verdict.Report.{Report}
use Rattle.pp_induct.specs.Verdicts.{AreVerdicts}

-- the limits are in their ranges
pub record AreLimits (limits : Limits) : Type 0 where
  pub rounds : limits.rounds ≤ ROUNDS.most
  pub least_depth : 1 ≤ limits.depth
  pub depth : limits.depth ≤ DEPTH.most
  pub least_lemmas : 1 ≤ limits.lemmas
  pub lemmas : limits.lemmas ≤ LEMMAS.most
  pub least_gates : 1 ≤ limits.gates
  pub gates : limits.gates ≤ GATES.most

-- the round after the last one that was searched
abbrev pub next_round : Option ℕ → ℕ
next_round None = 0
next_round (Some n) = suc n

-- the check is no plain descent: that would have been proved in the first round that was searched
abbrev pub IsNotPlain : Program → CheckId → Type 0
IsNotPlain p c = IsPlain p.functions c.0 → ⊥

module _ (p : Program) (limits : Limits) (i : ℕ) (c : CheckId) where
  abbrev pub size_of : ℕ → ℕ
  size_of n = estimate p.types p.functions p.checks c.0 n limits.depth

  -- the round is one of those that are asked for, and its estimate isn't above the asked number of gates
  pub record IsBegun (n : ℕ) : Type 0 where
    pub round : n ≤ limits.rounds
    pub size : size_of n ≤ limits.gates

  -- the round is left to the fronts: its estimate is above the asked number of gates, and so large that it tells
  -- nothing of what is done there
  pub record IsFronted (n : ℕ) : Type 0 where
    pub round : n ≤ limits.rounds
    pub size : limits.gates < size_of n
    pub large : FRONTED_ABOVE < size_of n

  -- the round is one of those that are asked for, and is begun, or its estimate is so large that it is left to the
  -- fronts
  pub record IsTried (n : ℕ) : Type 0 where
    pub round : n ≤ limits.rounds
    pub size : (size_of n ≤ limits.gates) ⊎ (FRONTED_ABOVE < size_of n)

  -- proved: no guess run of the round fails the check, and no run on arguments up to the depth; and the function isn't
  -- closed there, since a check that was tried on all arguments isn't proved besides
  pub record IsProvedIn (n : ℕ) : Type 0 where
    pub tried : IsTried n
    pub proved : IsProved p i c n limits.depth
    pub open_still : Closed p.types p.functions i n limits.depth → ⊥

  -- exhausted: the function is closed in this round, and in none before it that isn't too large; and no run fails the
  -- check
  pub record IsExhaustedIn (n : ℕ) : Type 0 where
    pub tried : IsTried n
    pub exhausted : IsExhausted p i c n limits.depth
    pub first : (k : ℕ) → k < n → size_of k ≤ limits.gates → Closed p.types p.functions i k limits.depth → ⊥

  -- invalid: the arguments fail the check with the fuel n, and with no less; and no arguments up to the depth fail it
  -- with less in a round that isn't too large
  pub record IsInvalidIn (args : List Value) (n : ℕ) : Type 0 where
    pub tried : IsTried n
    pub fails : IsCounterexample p i c n limits.depth args
    pub least : (k : ℕ) → k < n → IsCounterexample p i c k limits.depth args → ⊥
    pub first : (k : ℕ) → k < n → size_of k ≤ limits.gates → (others : List Value)
        → IsCounterexample p i c k limits.depth others → ⊥

  -- searched: no arguments up to the depth fail the check with the fuel n, and the function isn't closed there
  pub record IsSearchedTo (n : ℕ) : Type 0 where
    pub begun : IsBegun n
    pub none : NoLowRunFails p i c n limits.depth
    pub open_still : Closed p.types p.functions i n limits.depth → ⊥

  abbrev pub IsSearched : Option ℕ → Type 0
  IsSearched None = Unit {0}
  IsSearched (Some n) = IsSearchedTo n

  -- open by its size: the estimate of the next round, which is asked for, is above the asked number of gates
  pub record IsTooLarge (n : ℕ) : Type 0 where
    pub round : n ≤ limits.rounds
    pub size : limits.gates < size_of n

  -- open by lemmas: the search of this round has spent them
  pub record IsOutOfSearch (n : ℕ) (s : Spent) : Type 0 where
    pub begun : IsBegun n
    pub evidence : IsSearchEvidence p i c n limits.depth limits.lemmas s

  -- or the proof of this round, which was searched
  pub record IsOutOfProof (n : ℕ) (s : Spent) : Type 0 where
    pub not_plain : IsNotPlain p c
    pub evidence : IsProofEvidence p i c n limits.depth limits.lemmas s

  -- which of the two: the search of the first round; or that of the round after the last one that was searched, or the
  -- proof of this one
  abbrev pub IsOutOfLemmas : Option ℕ → Spent → Type 0
  IsOutOfLemmas None s = IsOutOfSearch 0 s
  IsOutOfLemmas (Some n) s = IsOutOfSearch (suc n) s ⊎ IsOutOfProof n s

  -- why the check is open after the rounds that were searched
  abbrev pub IsWhy : Option ℕ → Why → Type 0
  IsWhy searched Rounds = (searched ≡ Some limits.rounds) × IsNotPlain p c
  IsWhy searched Size = IsTooLarge (next_round searched)
  IsWhy searched (Lemmas s) = IsOutOfLemmas searched s

  -- and for a function that meets no datatype: some guess run of the last round that was searched fails the check,
  -- unless the proof of that round has spent its lemmas
  abbrev pub IsGuessed : Option ℕ → Why → Type 0
  IsGuessed None why = Unit {0}
  IsGuessed (Some n) Rounds = IsWordFunction p.types p.functions i → GuessFails p i c n
  IsGuessed (Some n) Size = IsWordFunction p.types p.functions i → GuessFails p i c n
  IsGuessed (Some n) (Lemmas s) = IsWordFunction p.types p.functions i → IsOutOfProof n s ⊎ GuessFails p i c n

  -- the end of the check, which belongs to function number i
  abbrev pub IsEnd : CheckEnd → Type 0
  IsEnd (Proved n) = IsProvedIn n
  IsEnd (Exhausted n) = IsExhaustedIn n
  IsEnd (Invalid args n) = IsInvalidIn args n
  IsEnd (Open searched why) = IsSearched searched × IsWhy searched why × IsGuessed searched why

module _ (p : Program) (limits : Limits) where
  -- what is said of each check holds
  abbrev pub AreEnds : List CheckEnd → Type 0
  AreEnds ends =
      (c : ℕ) (check : Check) (end : CheckEnd) → slice_get p.checks c ≡ Some check → slice_get ends c ≡ Some end
      → IsEnd p limits check.function.0 (record { 0 = c }) end

  -- there is one end for each check, in order, and what it says holds; the verdicts are those of the ends
  pub record IsReport (report : Report) : Type 0 where
    pub size : length report.checks ≡ length p.checks
    pub ends : AreEnds report.checks
    pub verdicts : AreVerdicts p report.checks report.verdicts
