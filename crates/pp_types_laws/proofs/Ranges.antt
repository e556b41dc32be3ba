-- What is in range stays in range, and what is found is what the arguments have.
use Rattle.std.proofs.Common.{◌≡◌, ◌∙◌, ◌⊎◌, inl, inr, ℕ, zero, suc, ◌<◌, Bool, true, false, nat_eq, if◌then◌else◌}
use Rattle.std.proofs.Common.{List, [], ◌∷◌, ◌++◌, Option, Some, None, map, length, get_or, slice_get, slice_set}
use Rattle.std.proofs.Common.{unwrap_or, refl, sym, ap, subst, arith}
use Rattle.std.proofs.lemmas.List.{append-nil, length-map}
use Rattle.std.proofs.lemmas.Option.{same_Some, slice_get-get_or}
use Rattle.pp_generic.specs.declared.expected.Expected.{Expected}
use Rattle.pp_generic.specs.declared.expected.Expected.TheVariants as expected
use Rattle.pp_generic.specs.declared.expected.Expected.TheViews.{out-Expected}
use Rattle.pp_generic.specs.Expected.{Found, exact, expect, expect_found, every, every_from, known, whole, whole_root}
use Rattle.pp_generic.specs.Found.{learn, learn_all, learn_root, none_found, noted}
use Rattle.pp_generic.proofs.Putting.{put_bool, put_int, put_param, put_root}
use Rattle.pp_typed.specs.InRange.{IsInRange, int_in_range, bool_in_range, param_in_range, root_in_range, AreInRange}
use Rattle.pp_typed.specs.InRange.{none_in_range, more_in_range}
use Rattle.pp_typed.specs.Put.{put}
use Rattle.pp_typed.specs.declared.sort.GenericSort.{GenericSort}
use Rattle.pp_typed.specs.declared.sort.GenericSort.TheVariants as sort
use Rattle.pp_typed.specs.declared.typed.TypedRoot.{TypedRoot}
use Rattle.pp_types_laws.proofs.Layers.{exact_int, exact_bool, exact_param}
use Rattle.pp_types_laws.proofs.Layers.{exact_root, expect_int, expect_bool, expect_param, expect_root, whole_open}
use Rattle.pp_types_laws.proofs.Layers.{whole_int, whole_bool, whole_param, whole_of_root, learn_int, learn_bool}
use Rattle.pp_types_laws.proofs.Layers.{learn_param, learn_of_root}
use Rattle.pp_types_laws.specs.Ranges.{IsExpectable, open_expectable, int_expectable, bool_expectable, param_expectable}
use Rattle.pp_types_laws.specs.Ranges.{root_expectable, AreExpectable, none_expectable, more_expectable, FoundInRange}

one_more : (done : List GenericSort) (s : GenericSort) (rest : List GenericSort)
    → (done ++ s ∷ []) ++ rest ≡ done ++ s ∷ rest
one_more [] s rest = refl
one_more (d ∷ done) s rest = ap (λ l. d ∷ l) (one_more done s rest)

-- the sorts that are all there
pub record AreThere (done : List GenericSort) (found : Found) (sorts : List GenericSort) : Type 0 where
  pub rest : List GenericSort
  pub all : sorts ≡ done ++ rest
  pub are : found ≡ map Some rest

every_there : (done : List GenericSort) (found : Found) (sorts : List GenericSort) → every_from done found ≡ Some sorts
    → AreThere done found sorts
every_there done [] sorts e =
    record { rest = []; all = sym (same_Some done sorts e) ∙ sym (append-nil done); are = refl }
every_there done (None ∷ found) sorts e = cc
every_there done (Some s ∷ found) sorts e =
    let t = every_there (done ++ s ∷ []) found sorts e in
    record { rest = s ∷ t.rest; all = t.all ∙ one_more done s t.rest; are = ap (λ l. Some s ∷ l) t.are }

pub every_is : (found : Found) (sorts : List GenericSort) → every found ≡ Some sorts → found ≡ map Some sorts
every_is found sorts e = let t = every_there [] found sorts e in t.are ∙ ap (map Some) (sym t.all)

every_some : (done sorts : List GenericSort) → every_from done (map Some sorts) ≡ Some (done ++ sorts)
every_some done [] = ap Some (sym (append-nil done))
every_some done (s ∷ ss) = every_some (done ++ s ∷ []) ss ∙ ap Some (one_more done s ss)

record IsWholeRoot (r : ℕ) (o : Option (List GenericSort)) (s : GenericSort) : Type 0 where
  parts : List GenericSort
  there : o ≡ Some parts
  is : s ≡ sort.Root r parts

root_whole : (r : ℕ) (o : Option (List GenericSort)) (s : GenericSort) → whole_root r o ≡ Some s → IsWholeRoot r o s
root_whole r None s e = cc
root_whole r (Some parts) s e = record { parts = parts; there = refl; is = sym (same_Some (sort.Root r parts) s e) }

-- what stands at a place of what is found, where one more is set
set_range : (found : Found) (i j : ℕ) (t s : GenericSort) → slice_get (slice_set found i (Some t)) j ≡ Some (Some s)
    → (slice_get found j ≡ Some (Some s)) ⊎ (t ≡ s)
set_range [] i j t s e = inl e
set_range (f ∷ fs) zero zero t s e = inr (same_Some t s (same_Some (Some t) (Some s) e))
set_range (f ∷ fs) zero (suc j) t s e = inl e
set_range (f ∷ fs) (suc i) zero t s e = inl e
set_range (f ∷ fs) (suc i) (suc j) t s e = set_range fs i j t s e

set_keeps : (found : Found) (i j : ℕ) (t s : GenericSort) → slice_get found i ≡ Some None
    → slice_get found j ≡ Some (Some s) → slice_get (slice_set found i (Some t)) j ≡ Some (Some s)
set_keeps [] i j t s e h = cc
set_keeps (f ∷ fs) zero zero t s e h = cc
set_keeps (f ∷ fs) zero (suc j) t s e h = h
set_keeps (f ∷ fs) (suc i) zero t s e h = h
set_keeps (f ∷ fs) (suc i) (suc j) t s e h = set_keeps fs i j t s e h

set_length : (found : Found) (i : ℕ) (t : GenericSort) → length (slice_set found i (Some t)) ≡ length found
set_length [] i t = refl
set_length (f ∷ fs) zero t = refl
set_length (f ∷ fs) (suc i) t = ap suc (set_length fs i t)

-- the sorts have what is found
abbrev pub Extends : Found → List GenericSort → Type 0
Extends found sorts = (i : ℕ) (s : GenericSort) → slice_get found i ≡ Some (Some s) → slice_get sorts i ≡ Some s

some_at : (sorts : List GenericSort) (i : ℕ) (s : GenericSort) → slice_get (map Some sorts) i ≡ Some (Some s)
    → slice_get sorts i ≡ Some s
some_at [] i s e = cc
some_at (t ∷ ts) zero s e = same_Some (Some t) (Some s) e
some_at (t ∷ ts) (suc i) s e = some_at ts i s e

pub every_extends : (found : Found) (sorts : List GenericSort) → every found ≡ Some sorts → Extends found sorts
every_extends found sorts e i s h = some_at sorts i s (ap (λ l. slice_get l i) (sym (every_is found sorts e)) ∙ h)

pub every_length : (found : Found) (sorts : List GenericSort) → every found ≡ Some sorts → length sorts ≡ length found
every_length found sorts e = sym (ap length (every_is found sorts e) ∙ length-map sorts Some)

none_at : (n i : ℕ) (s : GenericSort) → slice_get (none_found n) i ≡ Some (Some s) → ⊥
none_at zero i s e = cc
none_at (suc n) zero s e = cc
none_at (suc n) (suc i) s e = none_at n i s e

pub none_length : (n : ℕ) → length (none_found n) ≡ n
none_length zero = refl
none_length (suc n) = ap suc (none_length n)

module _ (roots : List TypedRoot) (m : ℕ) where
  mutual
    -- exactly a sort in range is expectable
    pub exact_in_range : {s : GenericSort} → IsInRange roots m s → IsExpectable roots m (exact s)
    exact_in_range (int_in_range e) = int_expectable (ap exact e ∙ exact_int)
    exact_in_range (bool_in_range e) = bool_expectable (ap exact e ∙ exact_bool)
    exact_in_range (param_in_range i e lt) = param_expectable i (ap exact e ∙ exact_param i) lt
    exact_in_range (root_in_range r root args e there n all) =
        root_expectable r root (map exact args) (ap exact e ∙ exact_root r args) there (length-map args exact ∙ n)
        (exacts_in_range all)

    exacts_in_range : {ss : List GenericSort} → AreInRange roots m ss → AreExpectable roots m (map exact ss)
    exacts_in_range none_in_range = none_expectable
    exacts_in_range (more_in_range s ss) = more_expectable (exact_in_range s) (exacts_in_range ss)

  mutual
    -- the one sort that is expected is in range
    pub whole_in_range : {x : Expected} → IsExpectable roots m x → (s : GenericSort) → whole x ≡ Some s
        → IsInRange roots m s
    whole_in_range (open_expectable e) s w = let f : None ≡ Some s = sym (ap whole e ∙ whole_open) ∙ w in cc
    whole_in_range (int_expectable e) s w =
        int_in_range (same_Some s sort.Int (sym w ∙ ap whole e ∙ whole_int))
    whole_in_range (bool_expectable e) s w =
        bool_in_range (same_Some s sort.Bool (sym w ∙ ap whole e ∙ whole_bool))
    whole_in_range (param_expectable i e lt) s w =
        param_in_range i (same_Some s (sort.Param i) (sym w ∙ ap whole e ∙ whole_param i)) lt
    whole_in_range (root_expectable r root args e there n all) s w =
        let q = root_whole r (every (map whole args)) s (sym (ap whole e ∙ whole_of_root r args) ∙ w) in
        let same = every_is (map whole args) q.parts q.there in
        root_in_range r root q.parts q.is there
        (sym (length-map q.parts Some) ∙ ap length (sym same) ∙ length-map args whole ∙ n)
        (wholes_in_range all q.parts same)

    wholes_in_range : {xs : List Expected} → AreExpectable roots m xs → (ss : List GenericSort)
        → map whole xs ≡ map Some ss
        → AreInRange roots m ss
    wholes_in_range none_expectable [] e = none_in_range
    wholes_in_range none_expectable (s ∷ ss) e = cc
    wholes_in_range (more_expectable x xs) [] e = cc
    wholes_in_range (more_expectable {x} {xs} h hs) (s ∷ ss) e =
        let first : whole x ≡ Some s = cc in
        let rest : map whole xs ≡ map Some ss = cc in
        more_in_range (whole_in_range h s first) (wholes_in_range hs ss rest)

  mutual
    -- exactly a sort is that sort
    pub whole_exact : {s : GenericSort} → IsInRange roots m s → whole (exact s) ≡ Some s
    whole_exact (int_in_range e) = ap (λ s. whole (exact s)) e ∙ ap whole exact_int ∙ whole_int ∙ ap Some (sym e)
    whole_exact (bool_in_range e) = ap (λ s. whole (exact s)) e ∙ ap whole exact_bool ∙ whole_bool ∙ ap Some (sym e)
    whole_exact (param_in_range i e lt) =
        ap (λ s. whole (exact s)) e ∙ ap whole (exact_param i) ∙ whole_param i ∙ ap Some (sym e)
    whole_exact (root_in_range r root args e there n all) =
        ap (λ s. whole (exact s)) e ∙ ap whole (exact_root r args) ∙ whole_of_root r (map exact args)
        ∙ ap (λ l. whole_root r (every l)) (wholes_exact all) ∙ ap (whole_root r) (every_some [] args) ∙ ap Some (sym e)

    wholes_exact : {ss : List GenericSort} → AreInRange roots m ss → map whole (map exact ss) ≡ map Some ss
    wholes_exact none_in_range = refl
    wholes_exact (more_in_range s ss) = let a = whole_exact s in let b = wholes_exact ss in cc

  pub at_in_range : {ss : List GenericSort} → AreInRange roots m ss → (i : ℕ) (s : GenericSort)
      → slice_get ss i ≡ Some s
      → IsInRange roots m s
  at_in_range none_in_range i s e = cc
  at_in_range (more_in_range h hs) zero s e = subst (IsInRange roots m) (same_Some _ s e) h
  at_in_range (more_in_range h hs) (suc i) s e = at_in_range hs i s e

  -- each place below the number of sorts has one in range
  pub append_in_range : {ss ts : List GenericSort} → AreInRange roots m ss → AreInRange roots m ts
      → AreInRange roots m (ss ++ ts)
  append_in_range none_in_range ts = ts
  append_in_range (more_in_range s ss) ts = more_in_range s (append_in_range ss ts)

  pub all_of_found : (found : Found) (sorts : List GenericSort) → FoundInRange roots m found → found ≡ map Some sorts
      → AreInRange roots m sorts
  all_of_found found [] h e = none_in_range
  all_of_found [] (s ∷ ss) h e = cc
  all_of_found (f ∷ fs) (s ∷ ss) h e =
      let first : f ≡ Some s = cc in
      let rest : fs ≡ map Some ss = cc in
      more_in_range (h zero s (ap Some first)) (all_of_found fs ss (λ i t g. h (suc i) t g) rest)

-- a declared sort, of a declaration with n type parameters, among values of one with m
module _ (roots : List TypedRoot) (n m : ℕ) where
  module _ (found : Found) (ok : FoundInRange roots m found) where
    found_expectable : (o : Option (Option GenericSort)) (i : ℕ) → slice_get found i ≡ o
        → IsExpectable roots m (expect_found o)
    found_expectable None i e = open_expectable refl
    found_expectable (Some None) i e = open_expectable refl
    found_expectable (Some (Some s)) i e = exact_in_range roots m (ok i s e)

    mutual
      pub expect_in_range : {p : GenericSort} → IsInRange roots n p → IsExpectable roots m (expect found p)
      expect_in_range (int_in_range e) = int_expectable (ap (expect found) e ∙ expect_int found)
      expect_in_range (bool_in_range e) = bool_expectable (ap (expect found) e ∙ expect_bool found)
      expect_in_range (param_in_range i e lt) =
          subst (IsExpectable roots m) (sym (ap (expect found) e ∙ expect_param found i))
          (found_expectable (slice_get found i) i refl)
      expect_in_range (root_in_range r root args e there k all) =
          root_expectable r root (map (expect found) args) (ap (expect found) e ∙ expect_root found r args) there
          (length-map args (expect found) ∙ k) (expects_in_range all)

      expects_in_range : {ps : List GenericSort} → AreInRange roots n ps → AreExpectable roots m (map (expect found) ps)
      expects_in_range none_in_range = none_expectable
      expects_in_range (more_in_range p ps) = more_expectable (expect_in_range p) (expects_in_range ps)

  -- what was found stays, and what is found more is in range
  pub record IsLearnt (found after : Found) : Type 0 where
    pub count : length after ≡ length found
    pub keeps : (i : ℕ) (s : GenericSort) → slice_get found i ≡ Some (Some s) → slice_get after i ≡ Some (Some s)
    pub in_range : FoundInRange roots m found → FoundInRange roots m after

  pub learnt_nothing : (found : Found) → IsLearnt found found
  learnt_nothing found = record { count = refl; keeps = λ i s e. e; in_range = λ h. h }

  pub learnt_more : {a b c : Found} → IsLearnt a b → IsLearnt b c → IsLearnt a c
  learnt_more h k = record {
    count = k.count ∙ h.count;
    keeps = λ i s e. k.keeps i s (h.keeps i s e);
    in_range = λ r. k.in_range (h.in_range r);
  }

  learnt_noted : (i : ℕ) (o : Option (Option GenericSort)) (w : Option GenericSort) (found : Found)
      → slice_get found i ≡ o
      → ((s : GenericSort) → w ≡ Some s → IsInRange roots m s) → IsLearnt found (noted i o w found)
  learnt_noted i None w found e h = learnt_nothing found
  learnt_noted i (Some (Some t)) w found e h = learnt_nothing found
  learnt_noted i (Some None) None found e h = learnt_nothing found
  learnt_noted i (Some None) (Some t) found e h = record {
    count = set_length found i t;
    keeps = λ j s g. set_keeps found i j t s e g;
    in_range = λ r j s g. either (r j s) (λ q. subst (IsInRange roots m) q (h t refl)) (set_range found i j t s g);
  }
    where
      either : {A B C : Type 0} → (A → C) → (B → C) → A ⊎ B → C
      either f g (inl a) = f a
      either f g (inr b) = g b

  chosen_learnt : (b : Bool) (found after : Found) → IsLearnt found after → IsLearnt found (if b then after else found)
  chosen_learnt true found after h = h
  chosen_learnt false found after h = learnt_nothing found

  module _ (r : ℕ) (args : List GenericSort) (found : Found)
      (rest : (xs : List Expected) → AreExpectable roots m xs
      → IsLearnt found (learn_all (map learn args) xs found)) where
    of_root : {x : Expected} → IsExpectable roots m x
        → IsLearnt found (learn_root r (map learn args) (out-Expected x) found)
    of_root (open_expectable e) =
        subst (λ o. IsLearnt found (learn_root r (map learn args) o found)) (sym (ap out-Expected e
        ∙ expected.outs-Open))
        (learnt_nothing found)
    of_root (int_expectable e) =
        subst (λ o. IsLearnt found (learn_root r (map learn args) o found)) (sym (ap out-Expected e
        ∙ expected.outs-Int))
        (learnt_nothing found)
    of_root (bool_expectable e) =
        subst (λ o. IsLearnt found (learn_root r (map learn args) o found)) (sym (ap out-Expected e
        ∙ expected.outs-Bool))
        (learnt_nothing found)
    of_root (param_expectable i e lt) =
        subst (λ o. IsLearnt found (learn_root r (map learn args) o found)) (sym (ap out-Expected e
        ∙ expected.outs-Param i))
        (learnt_nothing found)
    of_root (root_expectable q root xs e there k hs) =
        subst (λ o. IsLearnt found (learn_root r (map learn args) o found)) (sym (ap out-Expected e
        ∙ expected.outs-Root q xs))
        (chosen_learnt (nat_eq r q) found (learn_all (map learn args) xs found) (rest xs hs))

  mutual
    -- what a declared sort tells
    pub learn_in_range : {p : GenericSort} → IsInRange roots n p → {x : Expected} → IsExpectable roots m x
        → (found : Found)
        → IsLearnt found (learn p x found)
    learn_in_range (int_in_range e) {x} h found =
        subst (IsLearnt found) (sym (ap (λ p. learn p x found) e ∙ learn_int x found)) (learnt_nothing found)
    learn_in_range (bool_in_range e) {x} h found =
        subst (IsLearnt found) (sym (ap (λ p. learn p x found) e ∙ learn_bool x found)) (learnt_nothing found)
    learn_in_range (param_in_range i e lt) {x} h found =
        subst (IsLearnt found) (sym (ap (λ p. learn p x found) e ∙ learn_param x found i))
        (learnt_noted i (slice_get found i) (whole x) found refl (whole_in_range roots m h))
    learn_in_range (root_in_range r root args e there k all) {x} h found =
        subst (IsLearnt found) (sym (ap (λ p. learn p x found) e
        ∙ learn_of_root x found r args)) (of_root r args found (λ xs hs. of_all all hs found) h)

    of_all : {ps : List GenericSort} → AreInRange roots n ps → {xs : List Expected} → AreExpectable roots m xs
        → (found : Found)
        → IsLearnt found (learn_all (map learn ps) xs found)
    of_all none_in_range hs found = learnt_nothing found
    of_all (more_in_range p ps) none_expectable found = learnt_nothing found
    of_all (more_in_range {s} {ss} h hs) (more_expectable {x} {xs} k ks) found =
        learnt_more (learn_in_range h k found) (of_all hs ks (learn s x found))

  module _ (found : Found) (sorts : List GenericSort) (ok : FoundInRange roots m found)
      (extends : Extends found sorts) where
    param_known : (i : ℕ) (o : Option (Option GenericSort)) (s : GenericSort) → slice_get found i ≡ o
        → whole (expect_found o) ≡ Some s → slice_get sorts i ≡ Some s
    param_known i None s e w = let f : None ≡ Some s = sym whole_open ∙ w in cc
    param_known i (Some None) s e w = let f : None ≡ Some s = sym whole_open ∙ w in cc
    param_known i (Some (Some t)) s e w =
        extends i t e ∙ sym (whole_exact roots m (ok i t e)) ∙ w

    mutual
      -- a declared sort that is known is what stands in its place
      pub known_put : {p : GenericSort} → IsInRange roots n p → (s : GenericSort) → known found p ≡ Some s
          → put sorts p ≡ s
      known_put {p} (int_in_range e) s k =
          ap (put sorts) e ∙ put_int sorts
          ∙ same_Some sort.Int s (sym (ap (known found) e ∙ ap whole (expect_int found) ∙ whole_int) ∙ k)
      known_put {p} (bool_in_range e) s k =
          ap (put sorts) e ∙ put_bool sorts
          ∙ same_Some sort.Bool s (sym (ap (known found) e ∙ ap whole (expect_bool found) ∙ whole_bool) ∙ k)
      known_put {p} (param_in_range i e lt) s k =
          ap (put sorts) e ∙ put_param sorts i
          ∙ ap (λ o. unwrap_or o (sort.Param i)) (param_known i (slice_get found i) s refl
          (sym (ap (known found) e ∙ ap whole (expect_param found i)) ∙ k))
      known_put {p} (root_in_range r root args e there c all) s k =
          let q = root_whole r (every (map whole (map (expect found) args))) s
          (sym (ap (known found) e ∙ ap whole (expect_root found r args)
          ∙ whole_of_root r (map (expect found) args)) ∙ k) in
          ap (put sorts) e ∙ put_root sorts r args
          ∙ ap (sort.Root r) (knowns_put all q.parts (every_is (map whole (map
          (expect found) args)) q.parts q.there)) ∙ sym q.is

      knowns_put : {ps : List GenericSort} → AreInRange roots n ps → (ss : List GenericSort)
          → map whole (map (expect found) ps) ≡ map Some ss → map (put sorts) ps ≡ ss
      knowns_put none_in_range [] e = refl
      knowns_put none_in_range (s ∷ ss) e = cc
      knowns_put (more_in_range p ps) [] e = cc
      knowns_put (more_in_range {s} {ss} h hs) (t ∷ ts) e =
          let first : known found s ≡ Some t = cc in
          let rest : map whole (map (expect found) ss) ≡ map Some ts = cc in
          let a = known_put h t first in let b = knowns_put hs ts rest in cc

  module _ (args : List GenericSort) (ok : AreInRange roots m args) (count : length args ≡ n) where
    mutual
      -- a declared sort with sorts in range in place of its parameters
      pub put_in_range : {p : GenericSort} → IsInRange roots n p → IsInRange roots m (put args p)
      put_in_range (int_in_range e) = int_in_range (ap (put args) e ∙ put_int args)
      put_in_range (bool_in_range e) = bool_in_range (ap (put args) e ∙ put_bool args)
      put_in_range (param_in_range i e lt) =
          let within : i < length args = omega (arith, count, lt) in
          let here = slice_get-get_or args i (sort.Param i) within in
          subst (IsInRange roots m) (sym (ap (put args) e ∙ put_param args i
          ∙ ap (λ o. unwrap_or o (sort.Param i)) here))
          (at_in_range roots m ok i (get_or args i (sort.Param i)) here)
      put_in_range (root_in_range r root parts e there c all) =
          root_in_range r root (map (put args) parts) (ap (put args) e ∙ put_root args r parts) there
          (length-map parts (put args) ∙ c) (puts_in_range all)

      pub puts_in_range : {ps : List GenericSort} → AreInRange roots n ps → AreInRange roots m (map (put args) ps)
      puts_in_range none_in_range = none_in_range
      puts_in_range (more_in_range p ps) = more_in_range (put_in_range p) (puts_in_range ps)

-- nothing that is found is in range
pub none_in_found : (roots : List TypedRoot) (m n : ℕ) → FoundInRange roots m (none_found n)
none_in_found roots m n i s e = absurd (none_at n i s e)
