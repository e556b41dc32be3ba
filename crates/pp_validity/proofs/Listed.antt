-- Sites in order, with the checks that they carry and the offsets at which they stand.
use Rattle.std.proofs.Common.{◌≡◌, ⊎_elim, ℕ, suc, ◌+◌, Bool, true, false, List, [], ◌∷◌, ◌++◌, map, length, refl, sym}
use Rattle.std.proofs.Common.{ap, ◌∙◌, subst, arith, append_assoc, length-append}
use Rattle.std.specs.Prelude.{None, Contains}
use Rattle.std.proofs.lemmas.List.{append-nil, map-append}
use Rattle.std.proofs.lemmas.List.Elements.{Contains-push_cases, Contains-append_cases}
use Rattle.pp_list.specs.Joined.{joined}
use Rattle.pp_instances.proofs.Kept.{nothing_in}
use Rattle.pp_prog.specs.Listing.{Site, plain, division, assertion, precondition, measure, matching, postcondition}
use Rattle.pp_prog.specs.Listing.{as_kind, carried}
use Rattle.pp_prog.specs.Valid.{Carries}
use Rattle.pp_prog.specs.declared.check.CheckKind.{CheckKind}
use Rattle.pp_prog.specs.declared.expr.Function.{Function}
use Rattle.pp_prog.specs.declared.id.CheckId.{CheckId}
use Rattle.pp_translation.specs.Numbered.{more_if, number_if}
use Rattle.pp_translation.specs.Places.{for_each, told}
use Rattle.pp_translation.specs.Setting.{Setting}
use Rattle.pp_translation.specs.declared.frame.CheckAt.{CheckAt}
use Rattle.pp_translation.specs.declared.frame.Frame.{Frame}
use Rattle.pp_typed.specs.Stand.{Offset}

-- the sites that can fail, counted
abbrev pub count : List Site → ℕ
count [] = 0
count (plain check ∷ ss) = count ss
count (site ∷ ss) = suc (count ss)

abbrev pub offset_of : CheckAt → Offset
offset_of c = (c.source, c.at)

-- the numbers and kinds of checks, from this number on
abbrev pub numbers_from : ℕ → List CheckAt → List (CheckId × CheckKind)
numbers_from n [] = []
numbers_from n (c ∷ cs) = (record { 0 = n }, c.kind) ∷ numbers_from (suc n) cs

numbers_append : (n : ℕ) (a b : List CheckAt) → numbers_from n (a ++ b) ≡ numbers_from n a ++ numbers_from
    (n + length a) b
numbers_append n [] b = let e : n ≡ n + 0 = omega arith in ap (λ k. numbers_from k b) e
numbers_append n (c ∷ a) b =
    let e : suc n + length a ≡ n + suc (length a) = omega arith in
    ap (λ l. (record { 0 = n }, c.kind) ∷ l) (numbers_append (suc n) a b
    ∙ ap (λ k. numbers_from (suc n) a ++ numbers_from k b) e)

told_append : (s t : List Site) (o p : List Offset) → count s ≡ length o → told (s ++ t) (o ++ p) ≡ told s o ++ told t p
told_append [] t [] p h = refl
told_append [] t (o ∷ os) p h = absurd (omega (arith, h))
told_append (plain check ∷ s) t o p h = told_append s t o p h
told_append (division check ∷ s) t [] p h = absurd (omega (arith, h))
told_append (division check ∷ s) t (o ∷ os) p h =
    ap (λ l. for_each (carried (division check)) o ++ l) (told_append s t os p (omega arith))
    ∙ sym (append_assoc (for_each (carried (division check)) o) (told s os) (told t p))
told_append (assertion check ∷ s) t [] p h = absurd (omega (arith, h))
told_append (assertion check ∷ s) t (o ∷ os) p h =
    ap (λ l. for_each (carried (assertion check)) o ++ l) (told_append s t os p (omega arith))
    ∙ sym (append_assoc (for_each (carried (assertion check)) o) (told s os) (told t p))
told_append (precondition g check ∷ s) t [] p h = absurd (omega (arith, h))
told_append (precondition g check ∷ s) t (o ∷ os) p h =
    ap (λ l. for_each (carried (precondition g check)) o ++ l) (told_append s t os p (omega arith))
    ∙ sym (append_assoc (for_each (carried (precondition g check)) o) (told s os) (told t p))
told_append (measure g check ∷ s) t [] p h = absurd (omega (arith, h))
told_append (measure g check ∷ s) t (o ∷ os) p h =
    ap (λ l. for_each (carried (measure g check)) o ++ l) (told_append s t os p (omega arith))
    ∙ sym (append_assoc (for_each (carried (measure g check)) o) (told s os) (told t p))
told_append (matching k ps check ∷ s) t [] p h = absurd (omega (arith, h))
told_append (matching k ps check ∷ s) t (o ∷ os) p h =
    ap (λ l. for_each (carried (matching k ps check)) o ++ l) (told_append s t os p (omega arith))
    ∙ sym (append_assoc (for_each (carried (matching k ps check)) o) (told s os) (told t p))
told_append (postcondition check ∷ s) t [] p h = absurd (omega (arith, h))
told_append (postcondition check ∷ s) t (o ∷ os) p h =
    ap (λ l. for_each (carried (postcondition check)) o ++ l) (told_append s t os p (omega arith))
    ∙ sym (append_assoc (for_each (carried (postcondition check)) o) (told s os) (told t p))

count_append : (s t : List Site) → count (s ++ t) ≡ count s + count t
count_append [] t = omega arith
count_append (plain check ∷ s) t = count_append s t
count_append (division check ∷ s) t = let e = count_append s t in omega arith
count_append (assertion check ∷ s) t = let e = count_append s t in omega arith
count_append (precondition g check ∷ s) t = let e = count_append s t in omega arith
count_append (measure g check ∷ s) t = let e = count_append s t in omega arith
count_append (matching k ps check ∷ s) t = let e = count_append s t in omega arith
count_append (postcondition check ∷ s) t = let e = count_append s t in omega arith

pub joined_append : {A : Type 0} (a b : List (List A)) → joined (a ++ b) ≡ joined a ++ joined b
joined_append [] b = refl
joined_append (x ∷ a) b = ap (λ l. x ++ l) (joined_append a b) ∙ sym (append_assoc x (joined a) (joined b))

module _ (set : Setting) (fs : List Function) (own : Frame) where
  -- the checks of these sites come after the old ones, numbered in order, at these offsets, and each site carries what
  -- it should
  pub record Lists (ss : List Site) (os : List Offset) (old new : List CheckAt) : Type 0 where
    pub more : List CheckAt
    pub is : new ≡ old ++ more
    pub entries : joined (map carried ss) ≡ numbers_from (length old) more
    pub places : told ss os ≡ map offset_of more
    pub even : count ss ≡ length os
    pub owned : (c : CheckAt) → Contains more c → c.function ≡ own.number
    pub carry : (s : Site) → Contains ss s → Carries set.types fs own.number s

  pub lists_none : (old : List CheckAt) → Lists [] [] old old
  lists_none old = record {
    more = [];
    is = sym (append-nil old);
    entries = refl;
    places = refl;
    even = refl;
    owned = λ c h. absurd (nothing_in c h);
    carry = λ s h. absurd (nothing_in s h);
  }

  pub lists_append : (s t : List Site) (o p : List Offset) (old mid new : List CheckAt) → Lists s o old mid
      → Lists t p mid new → Lists (s ++ t) (o ++ p) old new
  lists_append s t o p old mid new a b =
      let behind : length mid ≡ length old + length a.more = ap length a.is ∙ length-append old a.more in
      record {
        more = a.more ++ b.more;
        is = b.is ∙ ap (λ l. l ++ b.more) a.is ∙ append_assoc old a.more b.more;
        entries = ap joined (map-append carried s t) ∙ joined_append (map carried s) (map carried t)
            ∙ ap (λ l. l ++ joined (map carried t)) a.entries
            ∙ ap (λ l. numbers_from (length old) a.more ++ l) (b.entries ∙ ap (λ k. numbers_from k b.more) behind)
            ∙ sym (numbers_append (length old) a.more b.more);
        places = told_append s t o p a.even ∙ ap (λ l. l ++ told t p) a.places
            ∙ ap (λ l. map offset_of a.more ++ l) b.places ∙ sym (map-append offset_of a.more b.more);
        even = count_append s t ∙ ap (λ n. n + count t) a.even ∙ ap (λ n. length o + n) b.even
            ∙ sym (length-append o p);
        owned = λ c h. ⊎_elim (a.owned c) (b.owned c) (Contains-append_cases a.more b.more c h);
        carry = λ x h. ⊎_elim (a.carry x) (b.carry x) (Contains-append_cases s t x h);
      }

  pub lists_same : (s t : List Site) (o p : List Offset) (old new : List CheckAt) → t ≡ s → p ≡ o → Lists s o old new
      → Lists t p old new
  lists_same s t o p old new e q h = subst (λ l. Lists l p old new) (sym e) (subst (λ l. Lists s l old new) (sym q) h)

  only : {A : Type 0} (P : A → Type 0) (x : A) → P x → (y : A) → Contains (x ∷ []) y → P y
  only P x h y c = ⊎_elim (λ no. absurd (nothing_in y no)) (λ e. subst P e h) (Contains-push_cases [] x y c)

  -- a site whose check is there where the test holds
  pub one_if : (site : Site) (k : CheckKind) (b : Bool) (c : CheckAt) (cs : List CheckAt) → c.kind ≡ k → c.function
      ≡ own.number
      → carried site ≡ as_kind k (number_if b cs)
      → told (site ∷ []) (offset_of c ∷ []) ≡ for_each (carried site) (offset_of c) ++ [] → count (site ∷ []) ≡ 1
      → Carries set.types fs own.number site
      → Lists (site ∷ []) (offset_of c ∷ []) cs (more_if b c cs)
  one_if site k true c cs is by are at one carry = record {
    more = c ∷ [];
    is = refl;
    entries = ap (λ l. l ++ []) are ∙ ap (λ z. (record { 0 = length cs }, z) ∷ []) (sym is);
    places = at ∙ ap (λ l. for_each l (offset_of c) ++ []) are;
    even = one;
    owned = λ d h. only (λ z. z.function ≡ own.number) c by d h;
    carry = λ s h. only (Carries set.types fs own.number) site carry s h;
  }
  one_if site k false c cs is by are at one carry = record {
    more = [];
    is = sym (append-nil cs);
    entries = ap (λ l. l ++ []) are;
    places = at ∙ ap (λ l. for_each l (offset_of c) ++ []) are;
    even = one;
    owned = λ d h. absurd (nothing_in d h);
    carry = λ s h. only (Carries set.types fs own.number) site carry s h;
  }

  pub plain_site : (cs : List CheckAt) → Lists (plain None ∷ []) [] cs cs
  plain_site cs = record {
    more = [];
    is = sym (append-nil cs);
    entries = refl;
    places = refl;
    even = refl;
    owned = λ d h. absurd (nothing_in d h);
    carry = λ s h. only (Carries set.types fs own.number) (plain None) refl s h;
  }
