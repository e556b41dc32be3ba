-- Marks on the trees among a list of fields, one after another.
use Rattle.std.proofs.Common.{◌≡◌, ◌∙◌, ℕ, ◌+◌, ◌<◌, Bool, true, false, List, [], ◌∷◌, ◌++◌, Contains}
use Rattle.std.proofs.Common.{get_or, set, length, take, refl, sym, ap, subst, arith, inl, inr, ⊎_elim, length-set}
use Rattle.std.proofs.Common.{get_or-set_other, get_or-set_same}
use Rattle.std.proofs.lemmas.Bool.{cases_eq}
use Rattle.std.proofs.lemmas.List.{take_more}
use Rattle.std.proofs.lemmas.List.Elements.{Contains-append_left, Contains-push, Contains-push_cases}
use Rattle.pp_store.specs.declared.held.Held.{Held}
use Rattle.pp_store.specs.declared.held.Held.TheVariants.{Tree}
use Rattle.pp_store.specs.Marks.{IsMarked, Marks}

pub marks_none : (marks : List Bool) → Marks [] marks marks
marks_none marks =
    record {
      length = refl;
      marked = λ k. (λ m. inl m, λ either. ⊎_elim (λ m. m) (λ (j, lt, is). absurd (omega (arith, lt))) either);
    }

same_tree : (j k : ℕ) → Tree j ≡ Tree k → j ≡ k
same_tree j k e = cc

module _ (fields : List Held) (i : ℕ) (x : Held) (old marks new : List Bool) (lt : i < length fields)
    (is : get_or fields i x ≡ x) (before : Marks (take i fields) old marks)
  where
    next : take (i + 1) fields ≡ take i fields ++ x ∷ []
    next = take_more fields i x lt ∙ ap (λ (h : Held). take i fields ++ h ∷ []) is

    -- a field that is no tree marks nothing
    pub marks_leaf : ((k : ℕ) → x ≡ Tree k → ⊥) → new ≡ marks → Marks (take (i + 1) fields) old new
    marks_leaf leaf e =
        record {
          length = ap length e ∙ before.length;
          marked = λ k. (
            λ m. let was = (before.marked k).0 (subst (λ (l : List Bool). IsMarked l k) e m) in
                ⊎_elim (λ o. inl o)
                (λ has. inr (subst (λ (hs : List Held). Contains hs (Tree k)) (sym next)
                (Contains-append_left (take i fields) (x ∷ []) (Tree k) has))) was,
            λ either. subst (λ (l : List Bool). IsMarked l k) (sym e) ((before.marked k).1
                (⊎_elim (λ o. inl o) (λ has.
                ⊎_elim (λ has. inr has) (λ same. absurd (leaf k same))
                (Contains-push_cases (take i fields) x (Tree k)
                (subst (λ (hs : List Held). Contains hs (Tree k)) next has))) either)),
          );
        }

    -- a tree is marked
    pub marks_tree : (n : ℕ) → x ≡ Tree n → n < length marks → new ≡ set marks n true
        → Marks (take (i + 1) fields) old new
    marks_tree n tree within e =
        record {
          length = ap length e ∙ length-set marks n true ∙ before.length;
          marked = λ k. elim (cases_eq k n) [
            | inl same ↦ (
              λ m. inr (subst (λ (hs : List Held). Contains hs (Tree k)) (sym next)
                  (subst (λ (h : Held). Contains (take i fields ++ x ∷ []) h) (tree ∙ ap Tree (sym same))
                  (Contains-push (take i fields) x))),
              λ either. ap (λ (l : List Bool). get_or l k false) e ∙ ap (λ j. get_or (set marks n true) j false) same
                  ∙ get_or-set_same marks n true false within,
            )
            | inr other ↦ let kept : get_or new k false ≡ get_or marks k false =
                ap (λ (l : List Bool). get_or l k false) e ∙ get_or-set_other marks n k true false other in (
                  λ m. ⊎_elim (λ o. inl o)
                      (λ has. inr (subst (λ (hs : List Held). Contains hs (Tree k)) (sym next)
                      (Contains-append_left (take i fields) (x ∷ []) (Tree k) has)))
                      ((before.marked k).0 (sym kept ∙ m)),
                  λ either. kept ∙ (before.marked k).1
                      (⊎_elim (λ o. inl o) (λ has.
                      ⊎_elim (λ has. inr has) (λ same. absurd (other (same_tree k n (sym same ∙ tree))))
                      (Contains-push_cases (take i fields) x (Tree k)
                      (subst (λ (hs : List Held). Contains hs (Tree k)) next has))) either),
                )
          ];
        }
