-- Facts that are noted: what holds of the values stays true.
use Rattle.std.proofs.Common.{◌≡◌, ◌+◌, ℕ, zero, suc, refl, sym, ap, subst, ◌∙◌, List, [], ◌∷◌, ◌++◌}
use Rattle.std.proofs.Common.{Some, length, arith}
use Rattle.std.specs.Prelude.{slice_get, slice_set}
use Rattle.std.proofs.lemmas.List.{length-append}
use Rattle.std.proofs.lemmas.Option.{same_Some}
use Rattle.pp_steps.specs.Meaning.{Values}
use Rattle.pp_closure.specs.declared.class.Class.{Class}
use Rattle.pp_closure.specs.Facts.{AllTell, Tells, unknown}

module _ (ρ : Values) where
  tells_of : (c : Class) (i j : ℕ) → i ≡ j → Tells ρ c (ρ i) → Tells ρ c (ρ j)
  tells_of c i j e h = subst (λ n. Tells ρ c (ρ n)) e h

  -- the class at a place tells of its step
  pub tells_at : (k : ℕ) (cs : List Class) (i n : ℕ) (c : Class) → AllTell ρ k cs → slice_get cs i ≡ Some c
      → n ≡ k + i → Tells ρ c (ρ n)
  tells_at k [] i n c all at is = absurd (cc)
  tells_at k (x ∷ cs) zero n c all at is =
      tells_of c k n (omega arith) (subst (λ y. Tells ρ y (ρ k)) (same_Some x c at) all.0)
  tells_at k (x ∷ cs) (suc i) n c all at is = tells_at (suc k) cs i n c all.1 at (omega arith)

  -- a class that is put in another one's place tells of the step there
  pub tell_set : (k : ℕ) (cs : List Class) (i n : ℕ) (c : Class) → AllTell ρ k cs → Tells ρ c (ρ n)
      → n ≡ k + i → AllTell ρ k (slice_set cs i c)
  tell_set k [] i n c all told is = tt
  tell_set k (x ∷ cs) zero n c all told is = (tells_of c n k (omega arith) told, all.1)
  tell_set k (x ∷ cs) (suc i) n c all told is = (all.0, tell_set (suc k) cs i n c all.1 told (omega arith))

  -- and one that is added, of the step behind the last one
  pub tell_push : (k : ℕ) (cs : List Class) (n : ℕ) (c : Class) → AllTell ρ k cs → Tells ρ c (ρ n)
      → n ≡ k + length cs → AllTell ρ k (cs ++ c ∷ [])
  tell_push k [] n c all told is = (tells_of c n k (omega arith) told, tt)
  tell_push k (x ∷ cs) n c all told is = (all.0, tell_push (suc k) cs n c all.1 told (omega arith))

  pub tells_unknown : (c : Class) (n : ℕ) → c ≡ unknown n → Tells ρ c (ρ n)
  tells_unknown c n e = subst (λ x. Tells ρ x (ρ n)) (sym e) (record {
    name = refl;
    truth = tt;
    shape = tt;
    maker = tt;
    low = tt;
    high = tt;
  })

pub length_push : (cs : List Class) (c : Class) (n : ℕ) → length cs ≡ n → length (cs ++ c ∷ []) ≡ n + 1
length_push cs c n e = length-append cs (c ∷ []) ∙ ap (λ k. k + 1) e
