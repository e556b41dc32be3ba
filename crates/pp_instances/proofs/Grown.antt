-- How a list of members grows.
use Rattle.std.proofs.Common.{◌≡◌, ℕ, zero, suc, ◌+◌, ◌<◌, ◌≤◌, Bool, true, false, List, [], ◌∷◌, ◌++◌, length, map}
use Rattle.std.proofs.Common.{take, get_or, Contains, Some, refl, sym, ap, ◌∙◌, subst, arith, inl, inr, ⊎_elim}
use Rattle.std.proofs.Common.{length-append, append_assoc, eq-eqb}
use Rattle.std.specs.Prelude.{if◌then◌else◌, nat_eq, slice_get}
use Rattle.std.proofs.lemmas.Option.{get_or_from_slice_get, slice_get-get_or}
use Rattle.std.specs.List.{list_any}
use Rattle.std.proofs.lemmas.Bool.{eqb-true}
use Rattle.std.proofs.lemmas.List.{append-nil, take_more, take_all, take-append-le, map_push}
use Rattle.std.proofs.lemmas.List.Elements.{Contains-append_left, Contains-append_right, Contains-push}
use Rattle.std.proofs.lemmas.List.Elements.{Contains-push_cases, Contains-append_cases, Contains-get_or}
use Rattle.std.proofs.lemmas.Map.Views.{Contains-from_any}
use Rattle.pp_instances.proofs.Kept.{nothing_in}
use Rattle.pp_instances.specs.Closure.{Distinct, Used, at_start, by_use, IsClosure, HasMore, HasInstance, Filled}
use Rattle.pp_instances.specs.Closure.{has_some, FillsOver, IsCause}
use Rattle.pp_instances.specs.Decides.{same_is}
use Rattle.pp_instances.specs.Growth.{Gains, Bursts, Stage, WhyNot, HasFunction}
use Rattle.pp_instances.specs.Same.{same, with_member}
use Rattle.pp_instances.specs.Uses.{uses, function_at, start_at, start_from}
use Rattle.pp_instances.specs.declared.fault.InstancesFault.{InstancesFault}
use Rattle.pp_instances.specs.declared.fault.InstancesFault.TheVariants.{TooManyInstances, Memory}
use Rattle.pp_instances.specs.declared.member.Member.{Member}
use Rattle.pp_typed.specs.declared.typed.Typed.{Typed}
use Rattle.pp_typed.specs.declared.typed.TypedDef.{TypedDef}

pub in_one : (m n : Member) → Contains (m ∷ []) n → m ≡ n
in_one m n h = ⊎_elim (λ e. absurd (nothing_in n e)) (λ e. e) (Contains-push_cases [] m n h)

-- one more member, where it isn't there

gained : (b : Bool) (old : List Member) (m : Member) → list_any (same m) old ≡ b
    → Distinct (if b then old else old ++ m ∷ [])
    → Gains old (m ∷ []) (if b then old else old ++ m ∷ [])
gained true old m h d = record {
  more = [];
  is = sym (append-nil old);
  once = d;
  all = λ n k. subst (λ z. Contains old z) (in_one m n k) (Contains-from_any same_is m old h);
  only = λ n k. inl k;
}
gained false old m h d = record {
  more = m ∷ [];
  is = refl;
  once = d;
  all = λ n k. subst (λ z. Contains (old ++ m ∷ []) z) (in_one m n k) (Contains-push old m);
  only = λ n k. Contains-append_cases old (m ∷ []) n k;
}

pub gains_with : (old ms : List Member) (m : Member) → ms ≡ with_member old m → Distinct ms → Gains old (m ∷ []) ms
gains_with old ms m is d =
    subst (λ l. Gains old (m ∷ []) l) (sym is) (gained (list_any (same m) old) old m refl (subst Distinct is d))

pub bursts_with : (old ms : List Member) (m : Member) → ms ≡ with_member old m → Distinct ms → 512 < length ms
    → Bursts 512 old (m ∷ [])
bursts_with old ms m is d many =
    let g = gains_with old ms m is d in record { some = ms; once = d; many = many; only = g.only }

pub gains_none : (old : List Member) → Distinct old → Gains old [] old
gains_none old d = record {
  more = [];
  is = sym (append-nil old);
  once = d;
  all = λ n h. absurd (nothing_in n h);
  only =
      λ n h. inl h;
}

-- members that were added, and then more
pub gains_then : (old done ms news all : List Member) → Gains old done ms → Gains ms news all
    → Gains old (done ++ news) all
gains_then old done ms news all g h = record {
  more = g.more ++ h.more;
  is = h.is ∙ ap (λ l. l ++ h.more) g.is ∙ append_assoc old g.more h.more;
  once = h.once;
  all = λ n has. ⊎_elim (λ d. subst (λ l. Contains l n) (sym h.is) (Contains-append_left ms h.more n (g.all n d)))
      (h.all n) (Contains-append_cases done news n has);
  only = λ n has. ⊎_elim (λ in_ms. ⊎_elim (λ o. inl o) (λ d. inr (Contains-append_left done news n d)) (g.only n in_ms))
      (λ new. inr (Contains-append_right done news n new)) (h.only n has);
}

pub bursts_then : (limit : ℕ) (old done ms news all : List Member) → Gains old done ms → Bursts limit ms news
    → ((n : Member) → Contains (done ++ news) n → Contains all n) → Bursts limit old all
bursts_then limit old done ms news all g b within = record {
  some = b.some;
  once = b.once;
  many = b.many;
  only = λ n has. ⊎_elim (λ in_ms. ⊎_elim (λ o. inl o) (λ d. inr (within n (Contains-append_left done news n d)))
      (g.only n in_ms)) (λ new. inr (within n (Contains-append_right done news n new))) (b.only n has);
}

module _ (typed : Typed) (seeds : List Member) where
  pub stage_start : (ms : List Member) → Gains [] seeds ms → Stage typed seeds 0 ms
  stage_start ms g = record {
    once = g.once;
    within = omega arith;
    used = λ m has. ⊎_elim (λ h. absurd (nothing_in m h)) (at_start m) (g.only m has);
    started = g.all;
    closed = λ m n h. absurd (nothing_in m h);
  }

  pub stage_turn : (next : ℕ) (ms all : List Member) (m : Member) → Stage typed seeds next ms → next < length ms
      → m ≡ get_or ms next m
      → Gains ms (uses typed m) all → Stage typed seeds (next + 1) all
  stage_turn next ms all m s lt is g = record {
    once = g.once;
    within = omega (arith, ap length g.is, length-append ms g.more);
    used = λ n has. ⊎_elim (s.used n) (by_use m n (s.used m has_m)) (g.only n has);
    started = λ n has. wider n (s.started n has);
    closed = λ k n has used_by. ⊎_elim (λ old. wider n (s.closed k n old used_by))
        (λ e. g.all n (subst (λ z. Contains (uses typed z) n) (sym e) used_by))
        (Contains-push_cases (take next ms) m k (subst (λ l. Contains l k) looked_at has));
  }
    where
      has_m : Contains ms m
      has_m = subst (λ z. Contains ms z) (sym is) (Contains-get_or ms next m lt)

      looked_at : take (next + 1) all ≡ take next ms ++ m ∷ []
      looked_at = ap (take (next + 1)) g.is ∙ take-append-le (next + 1) ms g.more (omega arith) ∙ take_more ms next m lt
          ∙ ap (λ z. take next ms ++ z ∷ []) (sym is)

      wider : (n : Member) → Contains ms n → Contains all n
      wider n has = subst (λ l. Contains l n) (sym g.is) (Contains-append_left ms g.more n has)

  pub stage_bursts : (next : ℕ) (ms : List Member) (m : Member) → Stage typed seeds next ms → next < length ms
      → m ≡ get_or ms next m
      → Bursts 512 ms (uses typed m) → HasMore typed 512 seeds
  stage_bursts next ms m s lt is b = record {
    some = b.some;
    once = b.once;
    many = b.many;
    used = λ n has. ⊎_elim (s.used n)
        (by_use m n (s.used m (subst (λ z. Contains ms z) (sym is) (Contains-get_or ms next m lt)))) (b.only n has);
  }

  pub start_bursts : Bursts 512 [] seeds → HasMore typed 512 seeds
  start_bursts b = record {
    some = b.some;
    once = b.once;
    many = b.many;
    used =
        λ n has. ⊎_elim (λ h. absurd (nothing_in n h)) (at_start n) (b.only n has);
  }

  pub stage_end : (next : ℕ) (ms : List Member) → Stage typed seeds next ms → length ms ≤ next
      → IsClosure typed seeds ms
  stage_end next ms s over = record { once = s.once; members = λ m. (s.used m, all m) }
    where
      all : (m : Member) → Used typed seeds m → Contains ms m
      all _ (at_start m has) = s.started m has
      all _ (by_use m n u used_by) =
          s.closed m n (subst (λ l. Contains l m) (sym (take_all next ms over)) (all m u)) used_by

  -- what the seeds use is also used by more seeds
  pub more_seeds : (more : List Member) (m : Member) → Used typed seeds m → Used typed (seeds ++ more) m
  more_seeds more _ (at_start m has) = at_start m (Contains-append_left seeds more m has)
  more_seeds more _ (by_use m n u used_by) = by_use m n (more_seeds more m u) used_by

  -- a closure, and one more seed, is a stage in which the closure's members have been looked at
  pub stage_more : (ms all : List Member) (m : Member) → IsClosure typed seeds ms → Gains ms (m ∷ []) all
      → Stage typed (seeds ++ m ∷ []) (length ms) all
  stage_more ms all m c g = record {
    once = g.once;
    within = omega (arith, ap length g.is, length-append ms g.more);
    used = λ n has. ⊎_elim (λ old. more_seeds (m ∷ []) n ((c.members n).0 old))
        (λ new. at_start n (Contains-append_right seeds (m ∷ []) n new)) (g.only n has);
    started = λ n has. ⊎_elim (λ old. wider n ((c.members n).1 (at_start n old))) (g.all n)
        (Contains-append_cases seeds (m ∷ []) n has);
    closed = λ k n has used_by. wider n
        ((c.members n).1 (by_use k n ((c.members k).0 (subst (λ l. Contains l k) looked has)) used_by));
  }
    where
      wider : (n : Member) → Contains ms n → Contains all n
      wider n has = subst (λ l. Contains l n) (sym g.is) (Contains-append_left ms g.more n has)

      looked : take (length ms) all ≡ ms
      looked = ap (take (length ms)) g.is ∙ take-append-le (length ms) ms g.more (omega arith)
          ∙ take_all (length ms) ms (omega arith)

  pub bursts_more : (ms : List Member) (m : Member) → IsClosure typed seeds ms → Bursts 512 ms (m ∷ [])
      → HasMore typed 512 (seeds ++ m ∷ [])
  bursts_more ms m c b = record {
    some = b.some;
    once = b.once;
    many = b.many;
    used = λ n has. ⊎_elim (λ old. more_seeds (m ∷ []) n ((c.members n).0 old))
        (λ new. at_start n (Contains-append_right seeds (m ∷ []) n new)) (b.only n has);
  }

pub why_not : {P Q : Type 0} → (P → Q) → (e : InstancesFault) → WhyNot P e → WhyNot Q e
why_not f TooManyInstances p = f p
why_not f Memory p = tt

pub in_taken : (xs : List Member) (i : ℕ) (x : Member) → Contains (take i xs) x → Contains xs x
in_taken xs zero x h = absurd (nothing_in x h)
in_taken [] (suc i) x h = h
in_taken (y ∷ xs) (suc i) x h =
    ⊎_elim (λ e. subst (λ z. Contains (y ∷ xs) z) (in_one y x e)
    (Contains-append_left (y ∷ []) xs y (Contains-push [] y)))
    (λ k. Contains-append_right (y ∷ []) xs x (in_taken xs i x k)) (Contains-append_cases (y ∷ []) (take i xs) x h)

-- the member at a place
pub got : (ms : List Member) (i : ℕ) (x : Member) → slice_get ms i ≡ Some x → (d : Member) → x ≡ get_or ms i d
got ms i x h d = sym (get_or_from_slice_get ms i x d h)

-- one more of what is mapped
pub mapped_one : (f : Member → Member) (xs : List Member) (i : ℕ) (x y : Member) → i < length xs → x ≡ get_or xs i x
    → y ≡ f x
    → map f (take (i + 1) xs) ≡ map f (take i xs) ++ y ∷ []
mapped_one f xs i x y lt is e =
    ap (map f) (take_more xs i x lt) ∙ map_push f (take i xs) (get_or xs i x)
    ∙ ap (λ z. map f (take i xs) ++ z ∷ []) (ap f (sym is) ∙ sym e)

taken_map : (f : Member → Member) (xs : List Member) (i : ℕ) → map f (take i xs) ≡ take i (map f xs)
taken_map f xs zero = refl
taken_map f [] (suc i) = refl
taken_map f (x ∷ xs) (suc i) = ap (λ l. f x ∷ l) (taken_map f xs i)

pub in_mapped : (f : Member → Member) (xs : List Member) (i : ℕ) (x : Member) → Contains (map f (take i xs)) x
    → Contains (map f xs) x
in_mapped f xs i x h = in_taken (map f xs) i x (subst (λ l. Contains l x) (taken_map f xs i) h)

-- functions without type parameters, one by one

start_next : (f : ℕ) (ds : List TypedDef) (i : ℕ) (d : TypedDef) → i < length ds → d ≡ get_or ds i d
    → start_from f (take (suc i) ds) ≡ start_from f (take i ds) ++ start_at (f + i) d
start_next f [] i d lt is = absurd (omega (arith, lt))
start_next f (e ∷ ds) zero d lt is =
    let n : f ≡ f + 0 = omega arith in
    append-nil (start_at f e) ∙ ap (λ z. start_at f z) (sym is) ∙ ap (λ k. start_at k d) n
start_next f (e ∷ ds) (suc i) d lt is =
    let n : suc f + i ≡ f + suc i = omega arith in
    ap (λ l. start_at f e ++ l) (start_next (suc f) ds i d (omega (arith, lt)) is)
    ∙ sym (append_assoc (start_at f e) (start_from (suc f) (take i ds)) (start_at (suc f + i) d))
    ∙ ap (λ k. (start_at f e ++ start_from (suc f) (take i ds)) ++ start_at k d) n

start_more : (ds : List TypedDef) (i : ℕ) (d : TypedDef) → i < length ds → d ≡ get_or ds i d
    → start_from 0 (take (i + 1) ds) ≡ start_from 0 (take i ds) ++ start_at i d
start_more ds i d lt is =
    let n : i + 1 ≡ suc i = omega arith in
    let m : 0 + i ≡ i = omega arith in
    ap (λ k. start_from 0 (take k ds)) n ∙ start_next 0 ds i d lt is
    ∙ ap (λ k. start_from 0 (take i ds) ++ start_at k d) m

start_one : (f : ℕ) (d : TypedDef) → d.type_params ≡ 0 → start_at f d ≡ function_at f [] ∷ []
start_one f d h = ap (λ b. if b then function_at f [] ∷ [] else []) (eq-eqb d.type_params 0 h)

differs : (n : ℕ) (b : Bool) → nat_eq n 0 ≡ b → (n ≡ 0 → ⊥) → b ≡ false
differs n true e h = absurd (h (eqb-true n 0 e))
differs n false e h = refl

start_none : (f : ℕ) (d : TypedDef) → (d.type_params ≡ 0 → ⊥) → start_at f d ≡ []
start_none f d h = ap (λ b. if b then function_at f [] ∷ [] else [])
    (differs d.type_params (nat_eq d.type_params 0) refl h)

-- the functions without type parameters up to one that has none
with_one : (ds : List TypedDef) (f : ℕ) (d : TypedDef) (m : Member) → f < length ds → d ≡ get_or ds f d
    → (get_or ds f d).type_params ≡ 0 → m ≡ function_at f []
    → start_from 0 (take (f + 1) ds) ≡ start_from 0 (take f ds) ++ m ∷ []
with_one ds f d m lt is none e =
    start_more ds f d lt is
    ∙ ap (λ l. start_from 0 (take f ds) ++ l)
    (start_one f d (ap (λ z. z.type_params) is ∙ none) ∙ ap (λ z. z ∷ []) (sym e))

pub start_gains : (ds : List TypedDef) (f : ℕ) (d : TypedDef) (ms all : List Member) (m : Member) → f < length ds
    → d ≡ get_or ds f d
    → (get_or ds f d).type_params ≡ 0 → m ≡ function_at f [] → Gains [] (start_from 0 (take f ds)) ms
    → Gains ms (m ∷ []) all
    → Gains [] (start_from 0 (take (f + 1) ds)) all
start_gains ds f d ms all m lt is none e g h =
    subst (λ l. Gains [] l all) (sym (with_one ds f d m lt is none e))
    (gains_then [] (start_from 0 (take f ds)) ms (m ∷ []) all g h)

pub start_keeps : (ds : List TypedDef) (f : ℕ) (d : TypedDef) (ms : List Member) → f < length ds → d ≡ get_or ds f d
    → ((get_or ds f d).type_params ≡ 0 → ⊥) → Gains [] (start_from 0 (take f ds)) ms
    → Gains [] (start_from 0 (take (f + 1) ds)) ms
start_keeps ds f d ms lt is some g =
    subst (λ l. Gains [] l ms)
    (sym (start_more ds f d lt is
    ∙ ap (λ l. start_from 0 (take f ds) ++ l) (start_none f d (λ e. some (sym (ap (λ z. z.type_params) is) ∙ e)))
    ∙ append-nil (start_from 0 (take f ds)))) g

in_start : (f : ℕ) (ds : List TypedDef) (i : ℕ) (n : Member) → Contains (start_from f (take i ds)) n
    → Contains (start_from f ds) n
in_start f ds zero n h = absurd (nothing_in n h)
in_start f [] (suc i) n h = h
in_start f (d ∷ ds) (suc i) n h =
    ⊎_elim (λ a. Contains-append_left (start_at f d) (start_from (suc f) ds) n a)
    (λ b. Contains-append_right (start_at f d) (start_from (suc f) ds) n (in_start (suc f) ds i n b))
    (Contains-append_cases (start_at f d) (start_from (suc f) (take i ds)) n h)

pub start_over : (ds : List TypedDef) (f : ℕ) (d : TypedDef) (ms : List Member) (m : Member) → f < length ds
    → d ≡ get_or ds f d
    → (get_or ds f d).type_params ≡ 0 → m ≡ function_at f [] → Gains [] (start_from 0 (take f ds)) ms
    → Bursts 512 ms (m ∷ [])
    → Bursts 512 [] (start_from 0 ds)
start_over ds f d ms m lt is none e g b =
    bursts_then 512 [] (start_from 0 (take f ds)) ms (m ∷ []) (start_from 0 ds) g b
    (λ n h. in_start 0 ds (f + 1) n (subst (λ l. Contains l n) (sym (with_one ds f d m lt is none e)) h))

-- a cause of too many instances
pub cause : {P : Type 0} (typed : Typed) → (P → FillsOver typed 512) → (e : InstancesFault) → WhyNot P e
    → IsCause typed e
cause typed f TooManyInstances p = f p
cause typed f Memory p = tt

pub over_at : (typed : Typed) (f : ℕ) (seeds : List Member) → Filled typed f seeds → HasMore typed 512 seeds
    → FillsOver typed 512
over_at typed f seeds filled over = record { seeds = seeds; looked = f; filled = filled; over = over }

abbrev pub Filling : Typed → ℕ → List Member → Type 0
Filling typed f ms = (seeds : List Member) × (Filled typed f seeds × IsClosure typed seeds ms)

pub fill_some : (typed : Typed) (f : ℕ) (ms : List Member) → Filling typed f ms → HasFunction ms f
    → Filling typed (f + 1) ms
fill_some typed f ms z found =
    (z.0, (has_some f z.0 z.1.0 (found.0, (z.1.1.members found.0).0 found.1, found.2), z.1.1))

pub none_yet : (typed : Typed) (f : ℕ) (seeds ms : List Member) → IsClosure typed seeds ms → (HasFunction ms f → ⊥)
    → HasInstance typed seeds f → ⊥
none_yet typed f seeds ms c none i = none (i.0, (c.members i.0).1 i.1, i.2)

-- the function at a place
pub defined : (typed : Typed) (ds : List TypedDef) (f : ℕ) (d : TypedDef) → ds ≡ typed.defs → f < length ds
    → d ≡ get_or ds f d
    → slice_get typed.defs f ≡ Some d
defined typed ds f d same lt is =
    subst (λ l. slice_get l f ≡ Some d) same (slice_get-get_or ds f d lt ∙ ap Some (sym is))
