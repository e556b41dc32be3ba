-- The lines on verdicts, one more at a time, and what is answered.
use Rattle.std.proofs.Common.{◌≡◌, ◌<◌, ◌+◌, ℕ, suc, List, [], ◌∷◌, ◌++◌, take, length, get_or, sym, ap, ◌∙◌, arith}
use Rattle.std.proofs.lemmas.List.{length-take-le, take_more}
use Rattle.std.specs.Prelude.{Some, slice_get}
use Rattle.std.proofs.lemmas.Option.{get_or_from_slice_get}
use Rattle.pp_induct.specs.declared.ends.CheckEnd.{CheckEnd}
use Rattle.pp_induct.specs.declared.verdict.Verdict.{Verdict}
use Rattle.pp_modes.specs.Verdicts.{verdict_lines, verdict_text}
use Rattle.pp_prog.specs.declared.expr.Function.{Function}
use Rattle.pp_prog.specs.declared.program.Program.{Program}

module _ (p : Program) (ends : List CheckEnd) where
  lines_push : (n : ℕ) (fs : List Function) (vs : List Verdict) (f : Function) (v : Verdict) → length fs ≡ length vs
      → verdict_lines p ends n (fs ++ f ∷ []) (vs ++ v ∷ [])
      ≡ verdict_lines p ends n fs vs ++ verdict_text p ends (n + length fs) f v ∷ []
  lines_push n [] [] f v even = let same : n ≡ n + 0 = omega arith in ap (λ k. verdict_text p ends k f v ∷ []) same
  lines_push n [] (w ∷ vs) f v even = absurd (omega (arith, even))
  lines_push n (g ∷ fs) [] f v even = absurd (omega (arith, even))
  lines_push n (g ∷ fs) (w ∷ vs) f v even =
      let same : suc n + length fs ≡ n + suc (length fs) = omega arith in
      ap (λ l. verdict_text p ends n g w ∷ l) (lines_push (suc n) fs vs f v (omega arith))
      ∙ ap (λ k. verdict_text p ends n g w ∷ verdict_lines p ends (suc n) fs vs ++ verdict_text p ends k f v ∷ []) same

  -- the lines with that of the next function
  pub lines_more : (fs : List Function) (vs : List Verdict) (i : ℕ) (f : Function) (v : Verdict)
      {old new : List (List ℕ)} → length fs ≡ length vs → i < length vs → f ≡ get_or fs i f → slice_get vs i ≡ Some v
      → old ≡ verdict_lines p ends 0 (take i fs) (take i vs) → new ≡ old ++ verdict_text p ends i f v ∷ []
      → new ≡ verdict_lines p ends 0 (take (i + 1) fs) (take (i + 1) vs)
  lines_more fs vs i f v {old} {new} even lt is_f at was more =
      let a : take (i + 1) fs ≡ take i fs ++ f ∷ [] =
      take_more fs i f (omega arith) ∙ ap (λ z. take i fs ++ z ∷ []) (sym is_f) in
      let b : take (i + 1) vs ≡ take i vs ++ v ∷ [] =
      take_more vs i v lt ∙ ap (λ z. take i vs ++ z ∷ []) (get_or_from_slice_get vs i v v at) in
      let m = length-take-le i fs (omega arith) in
      let n = length-take-le i vs (omega arith) in
      let there : 0 + length (take i fs) ≡ i = omega arith in
      more ∙ ap (λ l. l ++ verdict_text p ends i f v ∷ []) was
      ∙ ap (λ k. verdict_lines p ends 0 (take i fs) (take i vs) ++ verdict_text p ends k f v ∷ []) (sym there)
      ∙ sym (lines_push 0 (take i fs) (take i vs) f v (omega arith))
      ∙ ap (λ l. verdict_lines p ends 0 l (take i vs ++ v ∷ [])) (sym a)
      ∙ ap (λ l. verdict_lines p ends 0 (take (i + 1) fs) l) (sym b)
