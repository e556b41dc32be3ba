-- Symbols of which nothing is known but their height, one after another.
use Rattle.std.proofs.Common.{◌≡◌, ℕ, zero, suc, ◌+◌, ◌<◌, ◌≤◌, ◌^◌, Bool, true, List, [], ◌∷◌, ◌++◌, All, length, map}
use Rattle.std.proofs.Common.{sum, take, get_or, refl, sym, ap, ◌∙◌, subst, arith}
use Rattle.std.specs.List.{list_all}
use Rattle.std.proofs.lemmas.Bool.{and_from, and_parts}
use Rattle.std.proofs.lemmas.List.{length-map, map-append, take_all, take_more}
use Rattle.std.proofs.lemmas.List.Sums.{sum-map, sum_by_more, sum_by_more_le}
use Rattle.std.proofs.lemmas.List.Elements.{All-cons, All-head, All-push, All-tail}
use Rattle.pp_prog.specs.declared.expr.Param.{Param}
use Rattle.pp_prog.specs.declared.sort.Sort.{Sort}
use Rattle.pp_prog.specs.declared.sort.Sort.TheVariants as sort
use Rattle.pp_prog.specs.declared.types.Datatype.{Datatype}
use Rattle.pp_prog.specs.declared.types.TypeTable.{TypeTable}
use Rattle.pp_prog.specs.declared.value.Value.{Value}
use Rattle.pp_prog.specs.Sizes.{height_at}
use Rattle.pp_prog.specs.Sorts.{has_sort, have_sorts, param_sorts, sort_of_param}
use Rattle.pp_prog.specs.Table.{is_sort}
use Rattle.pp_prog.specs.Values.{height as value_height}
use Rattle.pp_gate.specs.declared.gate.Gate.{Gate}
use Rattle.pp_gate.proofs.Agreement.{agree_along}
use Rattle.pp_gate.proofs.Growing.{length-Grows}
use Rattle.pp_domain.specs.declared.symbol.Symbol.{Symbol}
use Rattle.pp_domain.specs.Laws.{Lawful}
use Rattle.pp_domain.specs.Moves.{Moves}
use Rattle.pp_domain.specs.Naming.{Naming, Names}
use Rattle.pp_domain.specs.Sense.{Sense}
use Rattle.pp_domain.specs.Symbols.{AreSymbols, IsSymbol, SymbolStands, SymbolsStand, symbol_height}
use Rattle.pp_domain.proofs.Composition.{Extended_none, Moves_more, Moves_none, agree_self}
use Rattle.pp_domain.proofs.Symbols.{AreSymbols_later, SymbolsStand_later, symbol_height_later}
use Rattle.pp_build.specs.StepGates.{opened_gates}
use Rattle.pp_prog.proofs.ValueSorts.{have_more, have_one}
use Rattle.pp_domain.specs.AnySort.{IsUnknownSymbol, IsUpTo}
use Rattle.pp_build.specs.Unknown.{AreUnknown, AreUpTo}

-- ---- values

-- values of one more sort
record LastValue (types : TypeTable) (h : ℕ) (ss : List Sort) (s : Sort) (us : List Value) : Type 0 where
  pub firsts : List Value
  pub last : Value
  pub whole : us ≡ firsts ++ last ∷ []
  pub firsts_are : AreUpTo types ss h firsts
  pub last_is : IsUpTo types s h last

last_value : (types : TypeTable) (h : ℕ) (ss : List Sort) (s : Sort) (us : List Value)
    → have_sorts types.ctors us (ss ++ s ∷ []) ≡ true → All (λ v. value_height v ≤ h) us → LastValue types h ss s us
last_value types h [] s [] sorted low = cc
last_value types h [] s (u ∷ []) sorted low = record {
  firsts = [];
  last = u;
  whole = refl;
  firsts_are = record { sorted = refl; low = λ k d lt. absurd (omega arith) };
  last_is = record {
    sorted = (and_parts (has_sort types.ctors u s) true sorted).0;
    low = All-head (λ v. value_height v ≤ h) u [] low;
  };
}
last_value types h [] s (u ∷ w ∷ us) sorted low =
    let no = (and_parts (has_sort types.ctors u s) (have_sorts types.ctors (w ∷ us) []) sorted).1 in cc
last_value types h (r ∷ ss) s [] sorted low = cc
last_value types h (r ∷ ss) s (u ∷ us) sorted low =
    let p = and_parts (has_sort types.ctors u r) (have_sorts types.ctors us (ss ++ s ∷ [])) sorted in
    let rest = last_value types h ss s us p.1 (All-tail (λ v. value_height v ≤ h) u us low) in
    record {
      firsts = u ∷ rest.firsts;
      last = rest.last;
      whole = ap (λ (ws : List Value). u ∷ ws) rest.whole;
      firsts_are = record {
        sorted = and_from (has_sort types.ctors u r) (have_sorts types.ctors rest.firsts ss) p.0
            rest.firsts_are.sorted;
        low = All-cons (λ v. value_height v ≤ h) u rest.firsts (All-head (λ v. value_height v ≤ h) u us low)
            rest.firsts_are.low;
      };
      last_is = rest.last_is;
    }

up_to_push : (types : TypeTable) (h : ℕ) (ss : List Sort) (s : Sort) (vs : List Value) (v : Value)
    → AreUpTo types ss h vs → IsUpTo types s h v → AreUpTo types (ss ++ s ∷ []) h (vs ++ v ∷ [])
up_to_push types h ss s vs v are is = record {
  sorted = have_more types.ctors ss (s ∷ []) vs (v ∷ []) are.sorted (have_one types.ctors s v is.sorted);
  low = All-push (λ u. value_height u ≤ h) vs v are.low is.low;
}

-- ---- parameters

-- the sort of the parameter at a place
param_at : (params : List Param) (i : ℕ) (p : Param) → i < length params → p ≡ get_or params i p
    → get_or (param_sorts params) i sort.Int ≡ p.sort
param_at [] i p lt is = absurd (omega arith)
param_at (q ∷ params) zero p lt is = ap sort_of_param (sym is)
param_at (q ∷ params) (suc i) p lt is = param_at params i p (omega arith) is

-- and that there is one
at_param : (params : List Param) (i : ℕ) → i < length params → i < length (param_sorts params)
at_param params i lt = omega (arith, length-map params sort_of_param)

past_params : (params : List Param) (i : ℕ) → length params ≤ i → length (param_sorts params) ≤ i
past_params params i past = omega (arith, length-map params sort_of_param)

sort_at : (datatypes : List Datatype) (ss : List Sort) (i : ℕ) (s : Sort)
    → list_all (is_sort datatypes) ss ≡ true → i < length ss → get_or ss i sort.Int ≡ s
    → is_sort datatypes s ≡ true
sort_at datatypes [] i s all lt at = absurd (omega arith)
sort_at datatypes (r ∷ ss) zero s all lt at = ap (is_sort datatypes) (sym at) ∙ (and_parts _ _ all).0
sort_at datatypes (r ∷ ss) (suc i) s all lt at =
    sort_at datatypes ss i s (and_parts (is_sort datatypes r) _ all).1 (omega arith) at

-- the last of several values that a naming names
record LastNamed (types : TypeTable) (n : Naming) (ss : List Sort) (s : Sort) (us : List Value) : Type 0 where
  pub firsts : List Value
  pub last : Value
  pub whole : us ≡ firsts ++ last ∷ []
  pub firsts_sorted : have_sorts types.ctors firsts ss ≡ true
  pub last_sorted : has_sort types.ctors last s ≡ true
  pub firsts_named : All (Names types n) firsts
  pub last_named : Names types n last

last_named : (types : TypeTable) (n : Naming) (ss : List Sort) (s : Sort) (us : List Value)
    → have_sorts types.ctors us (ss ++ s ∷ []) ≡ true → All (Names types n) us → LastNamed types n ss s us
last_named types n [] s [] sorted names = cc
last_named types n [] s (v ∷ []) sorted names = record {
  firsts = [];
  last = v;
  whole = refl;
  firsts_sorted = refl;
  last_sorted = (and_parts (has_sort types.ctors v s) true sorted).0;
  firsts_named = λ i d lt. absurd (omega arith);
  last_named = All-head (Names types n) v [] names;
}
last_named types n [] s (v ∷ w ∷ ws) sorted names =
    let no = (and_parts (has_sort types.ctors v s) (have_sorts types.ctors (w ∷ ws) []) sorted).1 in cc
last_named types n (t ∷ ts) s [] sorted names = cc
last_named types n (t ∷ ts) s (v ∷ vs) sorted names =
    let p = and_parts (has_sort types.ctors v t) (have_sorts types.ctors vs (ts ++ s ∷ [])) sorted in
    let l = last_named types n ts s vs p.1 (All-tail (Names types n) v vs names) in record {
      firsts = v ∷ l.firsts;
      last = l.last;
      whole = ap (λ (ws : List Value). v ∷ ws) l.whole;
      firsts_sorted = and_from (has_sort types.ctors v t) (have_sorts types.ctors l.firsts ts) p.0 l.firsts_sorted;
      last_sorted = l.last_sorted;
      firsts_named = All-cons (Names types n) v l.firsts (All-head (Names types n) v vs names) l.firsts_named;
      last_named = l.last_named;
    }

module _ {D T : Type 0} (m : Sense D T) (types : TypeTable) where
  -- ---- symbols

  symbols_push : (e : D) (hs : List Gate) (ss : List Sort) (s : Sort) (xs : List (Symbol T)) (x : Symbol T)
      → AreSymbols m e hs ss xs → IsSymbol m e hs s x → AreSymbols m e hs (ss ++ s ∷ []) (xs ++ x ∷ [])
  symbols_push e hs [] s [] x are is = (is, tt)
  symbols_push e hs (r ∷ ss) s (y ∷ xs) x are is = (are.0, symbols_push e hs ss s xs x are.1 is)
  symbols_push e hs [] s (y ∷ xs) x are is = absurd are
  symbols_push e hs (r ∷ ss) s [] x are is = absurd are

  stand_push : (e : D) (a : ℕ → Bool) (n : Naming) (xs : List (Symbol T)) (x : Symbol T) (vs : List Value) (v : Value)
      → SymbolsStand m e a n xs vs → SymbolStands m e a n x v
      → SymbolsStand m e a n (xs ++ x ∷ []) (vs ++ v ∷ [])
  stand_push e a n [] x [] v stand stands = (stands, tt)
  stand_push e a n (y ∷ xs) x (u ∷ vs) v stand stands = (stand.0, stand_push e a n xs x vs v stand.1 stands)
  stand_push e a n [] x (u ∷ vs) v stand stands = absurd stand
  stand_push e a n (y ∷ xs) x [] v stand stands = absurd stand

  heights_later : (d e : D) (gs hs : List Gate) (k : ℕ) (ss : List Sort) (xs : List (Symbol T))
      → Moves m types d gs e hs k → AreSymbols m d gs ss xs
      → map (symbol_height m e) xs ≡ map (symbol_height m d) xs
  heights_later d e gs hs k [] [] moves are = refl
  heights_later d e gs hs k (s ∷ ss) (x ∷ xs) moves are =
      ap (λ (h : ℕ). h ∷ map (symbol_height m e) xs) (symbol_height_later m types d e gs hs k s x moves are.0)
      ∙ ap (λ (ns : List ℕ). symbol_height m d x ∷ ns) (heights_later d e gs hs k ss xs moves are.1)
  heights_later d e gs hs k [] (x ∷ xs) moves are = absurd are
  heights_later d e gs hs k (s ∷ ss) [] moves are = absurd are

  -- none
  pub AreUnknown_none : (d : D) (gs : List Gate) (h : ℕ) (rs : List (Symbol T)) → rs ≡ []
      → AreUnknown m types d gs d gs [] h rs
  AreUnknown_none d gs h rs empty = subst (AreUnknown m types d gs d gs [] h) (sym empty) (record {
    symbols = tt;
    heights = refl;
    bounded = λ exact n a good. record {
      values = [];
      stand = tt;
      are = record { sorted = refl; low = λ k v lt. absurd (omega arith) };
    };
    chosen = λ exact n a vs good are. (Extended_none m types d gs n a good, no_values n a vs are);
    named = λ inexact n a vs good sorted names. (Extended_none m types d gs n a good, no_sorted n a vs sorted);
  })
    where
      no_sorted : (n : Naming) (a : ℕ → Bool) (vs : List Value) → have_sorts types.ctors vs [] ≡ true
          → SymbolsStand m d a n [] vs
      no_sorted n a [] sorted = tt
      no_sorted n a (v ∷ vs) sorted = cc

      no_values : (n : Naming) (a : ℕ → Bool) (vs : List Value) → AreUpTo types [] h vs → SymbolsStand m d a n [] vs
      no_values n a [] are = tt
      no_values n a (v ∷ vs) are = let no = are.sorted in cc

  -- one more
  module _ (d c e : D) (gs fs hs : List Gate) (h p k : ℕ) (some : 1 ≤ h) (before : Moves m types d gs c fs p)
      (moves : Moves m types c fs e hs k) where
    pub AreUnknown_push : (ss : List Sort) (s : Sort) (xs ys : List (Symbol T)) (x : Symbol T)
        → AreUnknown m types d gs c fs ss h xs → IsUnknownSymbol m types c fs e hs s h x → ys ≡ xs ++ x ∷ []
        → AreUnknown m types d gs e hs (ss ++ s ∷ []) h ys
    AreUnknown_push ss s xs ys x all one push =
        subst (AreUnknown m types d gs e hs (ss ++ s ∷ []) h) (sym push) (record {
          symbols = symbols_push e hs ss s xs x (AreSymbols_later m types c e fs hs k ss xs moves all.symbols) one.of;
          heights = map-append (symbol_height m e) xs (x ∷ [])
              ∙ ap (λ (ns : List ℕ). ns ++ symbol_height m e x ∷ [])
              (heights_later c e fs hs k ss xs moves all.symbols ∙ all.heights)
              ∙ ap (λ n. map (height_at h) ss ++ n ∷ []) one.height ∙ sym (map-append (height_at h) ss (s ∷ []));
          bounded = λ exact n a good.
              let old = all.bounded exact n a (moves.back n a good) in
              let new = one.bounded exact some n a good in
              record {
                values = old.values ++ new.value ∷ [];
                stand = stand_push e a n xs x old.values new.value
                    (SymbolsStand_later m types c e fs hs k n a a ss xs old.values moves all.symbols
                    (agree_self (length fs) a) old.stand) new.stands;
                are = up_to_push types h ss s old.values new.value old.are new.is;
              };
          named = λ inexact n a us good sorted names.
              let l = last_named types n ss s us sorted names in
              let old = all.named inexact n a l.firsts good l.firsts_sorted l.firsts_named in
              let new = one.named inexact n old.0.next l.last old.0.good l.last_sorted l.last_named in (
                record {
                  next = new.0.next;
                  agree = agree_along (length gs) (length fs) a old.0.next new.0.next
                      (length-Grows gs fs p before.grows).0 old.0.agree new.0.agree;
                  good = new.0.good;
                },
                subst (SymbolsStand m e new.0.next n (xs ++ x ∷ [])) (sym l.whole)
                    (stand_push e new.0.next n xs x l.firsts l.last
                    (SymbolsStand_later m types c e fs hs k n old.0.next new.0.next ss xs l.firsts moves all.symbols
                    new.0.agree old.1) new.1),
              );
          chosen = λ exact n a us good are.
              let l = last_value types h ss s us are.sorted are.low in
              let old = all.chosen exact n a l.firsts good l.firsts_are in
              let new = one.chosen exact n old.0.next l.last old.0.good l.last_is in (
                record {
                  next = new.0.next;
                  agree = agree_along (length gs) (length fs) a old.0.next new.0.next
                      (length-Grows gs fs p before.grows).0 old.0.agree new.0.agree;
                  good = new.0.good;
                },
                subst (SymbolsStand m e new.0.next n (xs ++ x ∷ [])) (sym l.whole)
                    (stand_push e new.0.next n xs x l.firsts l.last
                    (SymbolsStand_later m types c e fs hs k n old.0.next new.0.next ss xs l.firsts moves all.symbols
                    new.0.agree old.1) new.1),
              );
        })

  -- ---- the loop over the sorts

  -- so many of them have symbols
  pub record OpenedTo (d : D) (gs : List Gate) (ss : List Sort) (h i : ℕ) (e : D) (hs : List Gate)
      (xs : List (Symbol T)) : Type 0 where
    pub moves : Moves m types d gs e hs (sum (map (opened_gates m types h) (take i ss)))
    pub unknown : AreUnknown m types d gs e hs (take i ss) h xs

  pub opened_start : Lawful m → (d : D) (gs : List Gate) (ss : List Sort) (h : ℕ) (xs : List (Symbol T))
      → m.Fits types d gs → xs ≡ [] → OpenedTo d gs ss h 0 d gs xs
  opened_start law d gs ss h xs fits empty = record {
    moves = Moves_none m types law d gs fits;
    unknown = AreUnknown_none d gs h xs empty;
  }

  -- parameter number i, which the loop reads
  module _ (d e : D) (gs hs : List Gate) (params : List Param) (h i : ℕ) (p : Param) (xs : List (Symbol T))
      (opened : OpenedTo d gs (param_sorts params) h i e hs xs) (within : i < length params)
      (is_at : p ≡ get_or params i p) where
    abbrev ss : List Sort
    ss = param_sorts params

    abbrev s : Sort
    s = p.sort

    lt : i < length ss
    lt = at_param params i within

    at : get_or ss i sort.Int ≡ s
    at = param_at params i p within is_at

    pub opened_sort : list_all (is_sort types.datatypes) (param_sorts params) ≡ true
        → is_sort types.datatypes p.sort ≡ true
    opened_sort all = sort_at types.datatypes ss i s all lt at

    gates_next : sum (map (opened_gates m types h) (take (i + 1) ss))
        ≡ sum (map (opened_gates m types h) (take i ss)) + opened_gates m types h s
    gates_next =
        sum-map (opened_gates m types h) (take (i + 1) ss) ∙ sum_by_more (opened_gates m types h) ss i sort.Int lt
        ∙ ap (λ k. k + opened_gates m types h (get_or ss i sort.Int))
        (sym (sum-map (opened_gates m types h) (take i ss)))
        ∙ ap (λ r. sum (map (opened_gates m types h) (take i ss)) + opened_gates m types h r) at

    gates_within : sum (map (opened_gates m types h) (take i ss)) + opened_gates m types h s
        ≤ sum (map (opened_gates m types h) ss)
    gates_within =
        let most = sum_by_more_le (opened_gates m types h) ss i sort.Int lt in
        let here = ap (opened_gates m types h) at in
        omega (arith, sum-map (opened_gates m types h) (take i ss), sum-map (opened_gates m types h) ss)

    pub opened_room : length gs + sum (map (opened_gates m types h) ss) ≤ 2 ^ 30
        → length hs + opened_gates m types h s ≤ 2 ^ 30
    opened_room room =
        let grown = (length-Grows gs hs _ opened.moves.grows).1 in
        omega (arith, gates_within)

    pub opened_left : (f : D) (is : List Gate) → Moves m types e hs f is (opened_gates m types h s)
        → Moves m types d gs f is (sum (map (opened_gates m types h) ss))
    opened_left f is moves =
        Moves_more m types d e f gs hs is (sum (map (opened_gates m types h) (take i ss))) (opened_gates m types h s)
        (sum (map (opened_gates m types h) ss)) opened.moves moves gates_within

    pub opened_turn : (f : D) (is : List Gate) (x : Symbol T) (ys : List (Symbol T)) → 1 ≤ h
        → Moves m types e hs f is (opened_gates m types h s) → IsUnknownSymbol m types e hs f is s h x
        → ys ≡ xs ++ x ∷ [] → OpenedTo d gs ss h (i + 1) f is ys
    opened_turn f is x ys some moves unknown push = record {
      moves = Moves_more m types d e f gs hs is (sum (map (opened_gates m types h) (take i ss)))
          (opened_gates m types h s) (sum (map (opened_gates m types h) (take (i + 1) ss))) opened.moves moves
          (omega (arith, gates_next));
      unknown = subst (λ ts. AreUnknown m types d gs f is ts h ys)
          (sym (take_more ss i sort.Int lt ∙ ap (λ r. take i ss ++ r ∷ []) at))
          (AreUnknown_push d e f gs hs is h (sum (map (opened_gates m types h) (take i ss)))
          (opened_gates m types h s) some opened.moves moves (take i ss) s xs ys x opened.unknown unknown push);
    }

  -- all of them
  module _ (d e : D) (gs hs : List Gate) (params : List Param) (h i : ℕ) (xs : List (Symbol T))
      (past : length params ≤ i) (opened : OpenedTo d gs (param_sorts params) h i e hs xs) where
    whole : take i (param_sorts params) ≡ param_sorts params
    whole = take_all i (param_sorts params) (past_params params i past)

    pub all_moved : Moves m types d gs e hs (sum (map (opened_gates m types h) (param_sorts params)))
    all_moved = subst (λ ss. Moves m types d gs e hs (sum (map (opened_gates m types h) ss))) whole opened.moves

    pub all_unknown : AreUnknown m types d gs e hs (param_sorts params) h xs
    all_unknown = subst (λ ss. AreUnknown m types d gs e hs ss h xs) whole opened.unknown
