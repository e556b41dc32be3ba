-- What looks at the literals of a clause find, a literal at a time.
use Rattle.std.proofs.Common.{ℕ, ◌+◌, ◌≡◌, ◌≢◌, ◌<◌, ◌≤◌, true, List, [], ◌∷◌, ◌++◌, sym}
use Rattle.std.proofs.Common.{ap, ◌∙◌, subst, inl, inr, ◌⊎◌, arith, length, get_or, take, drop, Option, Some, None}
use Rattle.std.specs.Prelude.{IfNone}
use Rattle.std.proofs.lemmas.List.{take_more, take_all, get_or_default, take-append-drop, length-drop}
use Rattle.std.proofs.lemmas.Bool.{false_from_ne_true}
use Rattle.pp_clause.specs.Literal.{Literal, opposite}
use Rattle.std.proofs.lemmas.List.Folds.{list_any_at}
use Rattle.pp_clause.specs.Clause.{has, literal_eq}
use Rattle.pp_clause.specs.Log.{all_negated}
use Rattle.pp_clause.specs.New.{OthersNegated}
use Rattle.pp_clause.proofs.Has.{has-nil, has-push_cases, has-append_left, has-append_right}
use Rattle.pp_clause.proofs.Has.{has-append_cases, literal_eq-same}
use Rattle.pp_trail.specs.declared.step.Step.{Step}
use Rattle.pp_trail.specs.Trail.{lits, IsTrail, IsPlaceOf}
use Rattle.pp_trail.proofs.Places.{AreDistinct, literal_at}
use Rattle.pp_trail.proofs.Negated.{all_negated_from, negated_at}
use Rattle.pp_watch.specs.declared.finding.Found.{Found}
use Rattle.pp_watch.specs.declared.head.Head.{Head}
use Rattle.pp_trail.specs.Marks.{code}
use Rattle.pp_watch.specs.Looking.{IsBound, IsOther}

take_next : (ls : List Literal) (i : ℕ) (l : Literal) → i < length ls → l ≡ get_or ls i l → take (i + 1) ls
    ≡ take i ls ++ l ∷ []
take_next ls i l lt is = take_more ls i l lt ∙ ap (λ (x : Literal). take i ls ++ x ∷ []) (sym is)

pub has_item : (ls : List Literal) (i : ℕ) (l : Literal) → i < length ls → l ≡ get_or ls i l → has ls l ≡ true
has_item ls i l lt is = list_any_at (literal_eq l) ls i l lt (ap (literal_eq l) (sym is) ∙ literal_eq-same l)

pub negated_more : (set ls : List Literal) (i : ℕ) (l : Literal) → i < length ls → l ≡ get_or ls i l →
    all_negated set (take i ls) ≡ true → has set (opposite l) ≡ true → all_negated set (take (i + 1) ls) ≡ true
negated_more set ls i l lt is h k =
    ap (all_negated set) (take_next ls i l lt is)
    ∙ all_negated_from set (take i ls ++ l ∷ []) (λ m b. elim (has-push_cases (take i ls) l m b) [
      | inl j ↦ negated_at set (take i ls) m h j
      | inr e ↦ ap (λ (x : Literal). has set (opposite x)) e ∙ k
    ])

pub negated_all : (set ls : List Literal) (i : ℕ) → length ls ≤ i → all_negated set (take i ls) ≡ true →
    all_negated set ls ≡ true
negated_all set ls i le h = ap (all_negated set) (sym (take_all i ls le)) ∙ h

pub others_none : (set : List Literal) (x : Literal) (ls : List Literal) → OthersNegated set (take 0 ls) x
others_none set x ls = record { negated = λ m h ne. absurd (has-nil m h) }

pub others_more : (set ls : List Literal) (i : ℕ) (l x : Literal) → i < length ls → l ≡ get_or ls i l →
    OthersNegated set (take i ls) x → (l ≢ x → has set (opposite l) ≡ true) → OthersNegated set (take (i + 1) ls) x
others_more set ls i l x lt is h k = record {
  negated = λ m b ne. elim (has-push_cases (take i ls) l m
      (ap (λ (z : List Literal). has z m) (sym (take_next ls i l lt is)) ∙ b)) [
        | inl j ↦ h.negated m j ne
        | inr e ↦ ap (λ (z : Literal). has set (opposite z)) e ∙ k (λ f. ne (e ∙ f))
      ];
}

pub others_all : (set ls : List Literal) (i : ℕ) (x : Literal) → length ls ≤ i → OthersNegated set (take i ls) x →
    OthersNegated set ls x
others_all set ls i x le h = subst (λ (z : List Literal). OthersNegated set z x) (take_all i ls le) h

-- all literals are among three
abbrev pub AreThese : List Literal → Literal → Literal → Literal → Type 0
AreThese c a b d = (x : Literal) → has c x ≡ true → (x ≡ a) ⊎ ((x ≡ b) ⊎ (x ≡ d))

pub these_none : (ls : List Literal) (a b d : Literal) → AreThese (take 0 ls) a b d
these_none ls a b d = λ x h. absurd (has-nil x h)

pub these_more : (ls : List Literal) (i : ℕ) (l a b d : Literal) → i < length ls → l ≡ get_or ls i l →
    AreThese (take i ls) a b d → (l ≡ a) ⊎ ((l ≡ b) ⊎ (l ≡ d)) → AreThese (take (i + 1) ls) a b d
these_more ls i l a b d lt is h k = λ x held. elim (has-push_cases (take i ls) l x
    (ap (λ (z : List Literal). has z x) (sym (take_next ls i l lt is)) ∙ held)) [
      | inl j ↦ h x j
      | inr e ↦ elim k [
        | inl p ↦ inl (e ∙ p)
        | inr q ↦ elim q [ inl p ↦ inr (inl (e ∙ p)) | inr p ↦ inr (inr (e ∙ p)) ]
      ]
    ]

-- two of the three are the same
pub these_two : (c : List Literal) (a b d e : Literal) → d ≡ b → AreThese c a b d → AreThese c a b e
these_two c a b d e same h = λ x held. elim (h x held) [
  | inl p ↦ inl p
  | inr q ↦ elim q [ inl p ↦ inr (inl p) | inr p ↦ inr (inl (p ∙ same)) ]
]

pub these_all : (ls : List Literal) (i : ℕ) (a b d : Literal) → length ls ≤ i → AreThese (take i ls) a b d →
    AreThese ls a b d
these_all ls i a b d le h = subst (λ (z : List Literal). AreThese z a b d) (take_all i ls le) h

-- what holds of the literals before a place and of those from it on
pub other_before : (set c : List Literal) (i : ℕ) (x m : Literal) → IsOther set (take i c) x m → IsOther set c x m
other_before set c i x m h = record {
  held = ap (λ (z : List Literal). has z m) (sym (take-append-drop i c)) ∙ has-append_left (take i c) (drop i c) m
      h.held;
  not_false = h.not_false;
  differs = h.differs;
}

pub other_from : (set c : List Literal) (i n : ℕ) (x m : Literal) → IsOther set (take n (drop i c)) x m →
    IsOther set c x m
other_from set c i n x m h =
    let part : IsOther set (drop i c) x m = other_before set (drop i c) n x m h in
    record {
      held = ap (λ (z : List Literal). has z m) (sym (take-append-drop i c)) ∙ has-append_right (take i c) (drop i c) m
          part.held;
      not_false = part.not_false;
      differs = part.differs;
    }

others_both : (set c : List Literal) (i n : ℕ) (x : Literal) → length c ≤ i + n → OthersNegated set (take i c) x →
    OthersNegated set (take n (drop i c)) x → OthersNegated set c x
others_both set c i n x le before from =
    let rest : OthersNegated set (drop i c) x = others_all set (drop i c) n x (omega (arith, length-drop i c)) from in
    record {
      negated = λ m h ne. elim (has-append_cases (take i c) (drop i c) m
          (ap (λ (z : List Literal). has z m) (take-append-drop i c) ∙ h)) [
            | inl j ↦ before.negated m j ne
            | inr j ↦ rest.negated m j ne
          ];
    }

-- and where the first look of two found none, and the second one answers whether there is one
pub others_none_both : (set c : List Literal) (i n : ℕ) (x : Literal) (r : Option Found) → length c ≤ i + n →
    IfNone r (OthersNegated set (take i c) x) → OthersNegated set (take n (drop i c)) x →
    IfNone r (OthersNegated set c x)
others_none_both set c i n x None le before from = others_both set c i n x le before from
others_none_both set c i n x (Some f) le before from = tt

-- before its place a literal isn't false
before_place : (steps : List Step) (place n : ℕ) (l : Literal) → AreDistinct steps → IsPlaceOf steps l.var place →
    n ≤ place → has (lits (take n steps)) (opposite l) ≡ true → ⊥
before_place steps place n l d p le h =
    let q = literal_at steps n (opposite l) h in
    let early = q.before in
    let far : (get_or steps q.place p.step).lit.var ≢ (get_or steps place p.step).lit.var = d q.place place p.step
    (omega arith) p.stands.within in
    let here : q.step ≡ get_or steps q.place p.step = q.stands.is
    ∙ get_or_default steps q.place q.step p.step q.stands.within in
    far (ap (λ (z : Step). z.lit.var) (sym here) ∙ ap (λ (z : Literal). z.var) q.is ∙ sym p.is ∙ ap
    (λ (z : Step). z.lit.var) p.stands.is)

pub bound_at : (cs : List (List Literal)) (vars : ℕ) (steps : List Step) (h : Head) (place : ℕ) →
    IsTrail cs vars steps → IsPlaceOf steps h.second.var place → has (lits steps) (opposite h.second) ≡ true →
    code h.first ≢ code h.second → IsBound steps h (place + 1)
bound_at cs vars steps h place t p neg ne = record {
  forced = inl neg;
  differ = λ n lt. ne;
  before = λ n lt. false_from_ne_true (has (lits (take n steps)) (opposite h.second))
      (before_place steps place n h.second t.distinct p (omega arith));
}
