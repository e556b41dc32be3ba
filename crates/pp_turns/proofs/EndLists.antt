-- The ends of checks that have all ended.
use Rattle.std.proofs.Common.{◌≡◌, ◌∙◌, ℕ, zero, suc, Bool, true, List, [], ◌∷◌, ◌++◌, Option, Some, None}
use Rattle.std.proofs.Common.{◌&&◌, length, reverse, slice_get, refl, sym, ap, subst, arith}
use Rattle.std.specs.Prelude.{IfSome, IsTrue, is_some, option_and_then, option_to_list}
use Rattle.std.specs.List.{flat_map, list_all}
use Rattle.std.proofs.lemmas.Bool.{and_parts, false≢true}
use Rattle.std.proofs.lemmas.List.{append-nil, append_assoc, length-append, reverse-append}
use Rattle.std.proofs.lemmas.List.Concat.{flat_map-append}
use Rattle.std.proofs.lemmas.Option.{same_Some}
use Rattle.pp_prog.specs.declared.check.Check.{Check}
use Rattle.pp_prog.specs.declared.program.Program.{Program}
use Rattle.pp_induct.specs.declared.ends.CheckEnd.{CheckEnd}
use Rattle.pp_induct.specs.declared.limits.Limits.{Limits}
use Rattle.pp_induct.specs.Reports.{AreEnds, IsEnd}
use Rattle.pp_turns.specs.declared.part.Turn.{Turn}
use Rattle.pp_turns.specs.declared.turns.Turns.{Turns}
use Rattle.pp_turns.specs.Parts.{HaveEnded, end_of, ends_in, has_ended}
use Rattle.pp_turns.specs.Turns.{AreTurns, IsTurn}

-- the test of all checks says that each has ended
pub from_test : (turns : List Turn) → list_all has_ended turns ≡ true → HaveEnded turns
from_test [] all c turn at = cc
from_test (t ∷ ts) all zero turn at =
    let parts = and_parts (has_ended t) (list_all has_ended ts) all in
    let same : t ≡ turn = same_Some t turn at in
    subst (λ (u : Turn). IsTrue (has_ended u)) same parts.0
from_test (t ∷ ts) all (suc c) turn at =
    from_test ts (and_parts (has_ended t) (list_all has_ended ts) all).1 c turn at

pub to_test : (turns : List Turn) → HaveEnded turns → list_all has_ended turns ≡ true
to_test [] have = refl
to_test (t ∷ ts) have =
    ap (λ (b : Bool). b && list_all has_ended ts) (have 0 t refl)
    ∙ to_test ts (λ c turn at. have (suc c) turn at)

-- the end of a check that has ended stands before those of the others
end_first : (t : Turn) (ts : List Turn) → IsTrue (has_ended t)
    → ((c : ℕ) → slice_get (flat_map ends_in ts) c ≡ end_of ts c)
    → (c : ℕ) → slice_get (flat_map ends_in (t ∷ ts)) c ≡ end_of (t ∷ ts) c
end_first t ts ended others = by t.end refl ended
  where
    by : (end : Option CheckEnd) → t.end ≡ end → IsTrue (is_some end) → (c : ℕ)
        → slice_get (flat_map ends_in (t ∷ ts)) c ≡ end_of (t ∷ ts) c
    by None e some c = absurd (false≢true some)
    by (Some end) e some zero =
        ap (λ (o : Option CheckEnd). slice_get (option_to_list o ++ flat_map ends_in ts) 0) e ∙ sym e
    by (Some end) e some (suc c) =
        ap (λ (o : Option CheckEnd). slice_get (option_to_list o ++ flat_map ends_in ts) (suc c)) e ∙ others c

-- where all have ended there is one end for each, in order
pub ends_at : (turns : List Turn) → HaveEnded turns → (c : ℕ) → slice_get (flat_map ends_in turns) c ≡ end_of turns c
ends_at [] have = λ c. refl
ends_at (t ∷ ts) have = end_first t ts (have 0 t refl) (ends_at ts (λ d turn at. have (suc d) turn at))

one_end : (t : Turn) → IsTrue (has_ended t) → length (ends_in t) ≡ 1
one_end t ended = by t.end ended
  where
    by : (end : Option CheckEnd) → IsTrue (is_some end) → length (option_to_list end) ≡ 1
    by None some = absurd (false≢true some)
    by (Some end) some = refl

pub ends_size : (turns : List Turn) → HaveEnded turns → length (flat_map ends_in turns) ≡ length turns
ends_size [] have = refl
ends_size (t ∷ ts) have =
    omega (
      arith,
      length-append (ends_in t) (flat_map ends_in ts),
      one_end t (have 0 t refl),
      ends_size ts (λ d turn at. have (suc d) turn at),
    )

-- the end of a check that is listed is one of its function's
end_holds : (p : Program) (limits : Limits) (c : ℕ) (turn : Turn) (check : Check) (end : CheckEnd)
    → IsTurn p limits c turn → slice_get p.checks c ≡ Some check → turn.end ≡ Some end
    → IsEnd p limits check.function.0 (record { 0 = c }) end
end_holds p limits c turn check end is listed at =
    let own = is.come.own in
    let both : Some check ≡ Some own.check =
    sym listed ∙ ap (λ (n : ℕ). slice_get p.checks n) (sym is.check) ∙ own.listed in
    let same : check ≡ own.check = same_Some check own.check both in
    let function : check.function.0 ≡ turn.progress.function.0 = ap (λ (k : Check). k.function.0) same ∙ own.owner in
    let ended : IsEnd p limits turn.progress.function.0 turn.progress.check end =
    subst (λ (o : Option CheckEnd). IfSome o (IsEnd p limits turn.progress.function.0 turn.progress.check)) at is.ended
    in
    subst (λ (i : ℕ). IsEnd p limits i (record { 0 = c }) end) (sym function)
    (subst (λ (n : ℕ). IsEnd p limits turn.progress.function.0 (record { 0 = n }) end) is.check ended)

pub are_ends : (p : Program) (turns : Turns) → AreTurns p turns → HaveEnded turns.checks
    → AreEnds p turns.limits (flat_map ends_in turns.checks)
are_ends p turns are have c check end listed at =
    by (slice_get turns.checks c) refl (sym (ends_at turns.checks have c) ∙ at)
  where
    by : (o : Option Turn) → slice_get turns.checks c ≡ o
        → option_and_then (λ (turn : Turn). turn.end) o ≡ Some end
        → IsEnd p turns.limits check.function.0 (record { 0 = c }) end
    by None here ended = cc
    by (Some turn) here ended =
        end_holds p turns.limits c turn check end (are.each c turn here) listed ended

-- the ends of a list whose last check is taken off
pub last_off : (turns rest : List Turn) (last : Turn) (back more : List CheckEnd) → turns ≡ rest ++ last ∷ []
    → more ≡ back ++ ends_in last
    → flat_map ends_in turns ++ reverse back ≡ flat_map ends_in rest ++ reverse more
last_off turns rest last back more split grown =
    ap (λ (l : List Turn). flat_map ends_in l ++ reverse back) split
    ∙ ap (λ (l : List CheckEnd). l ++ reverse back) (flat_map-append ends_in rest (last ∷ []))
    ∙ append_assoc (flat_map ends_in rest) (flat_map ends_in (last ∷ [])) (reverse back)
    ∙ ap (λ (l : List CheckEnd). flat_map ends_in rest ++ l) (by last.end)
    ∙ ap (λ (l : List CheckEnd). flat_map ends_in rest ++ reverse l) (sym grown)
  where
    by : (end : Option CheckEnd) → (option_to_list end ++ []) ++ reverse back ≡ reverse (back ++ option_to_list end)
    by None = ap (λ (l : List CheckEnd). reverse l) (sym (append-nil back))
    by (Some e) = sym (reverse-append back (e ∷ []))
