-- The printed names of sorts without parameters tell these.
use Rattle.std.proofs.Common.{◌≡◌, ℕ, List, [], ◌∷◌, ◌++◌, map, Some, refl, sym, ap, ◌∙◌, arith, append_assoc}
use Rattle.std.specs.Prelude.{slice_get}
use Rattle.pp_list.specs.Joined.{joined}
use Rattle.pp_instance_names.proofs.Words.{IsAfterName, IsAfterSort, boolean_plain, close_after, closing, comma, heads}
use Rattle.pp_instance_names.proofs.Words.{int_no_boolean, int_plain, no_args, no_opening, opening, tails, words_read}
use Rattle.pp_instances.specs.Names.{after_comma, bracketed, print_step, printed_sort, root_name}
use Rattle.pp_typed.specs.InRange.{IsInRange, AreInRange}
use Rattle.pp_typed.specs.InRange.{bool_in_range, int_in_range, more_in_range, none_in_range, param_in_range}
use Rattle.pp_typed.specs.InRange.{root_in_range}
use Rattle.pp_typed.specs.WellSorted.{IsPlain, IsWellSorted, boolean_name, int_name}
use Rattle.pp_typed.specs.declared.sort.GenericSort.{GenericSort}
use Rattle.pp_typed.specs.declared.sort.GenericSort.TheFolds.{fold-roll-GenericSort}
use Rattle.pp_typed.specs.declared.sort.GenericSort.TheOpen as layer
use Rattle.pp_typed.specs.declared.sort.GenericSort.TheVariants.{Int, Bool, Root, rolls-Int, rolls-Bool, rolls-Root}
use Rattle.pp_typed.specs.declared.typed.Typed.{Typed}
use Rattle.pp_typed.specs.declared.typed.TypedRoot.{TypedRoot}

both_more : {s t : GenericSort} {ss ts : List GenericSort} {x y : List ℕ} → s ≡ t → (ss ≡ ts) × (x ≡ y)
    → (s ∷ ss ≡ t ∷ ts) × (x ≡ y)
both_more {t = t} {ss = ss} one more = (ap (λ z. z ∷ ss) one ∙ ap (λ l. t ∷ l) more.0, more.1)

same_roots : {s t : GenericSort} {x y : List ℕ} (r q : ℕ) (args rest : List GenericSort) → s ≡ Root r args
    → t ≡ Root q rest → r ≡ q → (args ≡ rest) × (x ≡ y) → (s ≡ t) × (x ≡ y)
same_roots r q args rest is is_t one more =
    (is ∙ ap (λ n. Root n args) one ∙ ap (Root q) more.0 ∙ sym is_t, more.1)

module _ (typed : Typed) where
  abbrev Text : Type 0
  Text = List ℕ

  -- the printed arguments of a declaration
  abbrev pub brackets : List GenericSort → Text
  brackets sorts = bracketed (map (printed_sort typed) sorts)

  -- the printed sorts after the first
  abbrev later : List GenericSort → Text
  later sorts = joined (map after_comma (map (printed_sort typed) sorts))

  first_of : (s : GenericSort) (ss : List GenericSort) (x : Text)
      → brackets (s ∷ ss) ++ x ≡ 91 ∷ (printed_sort typed s ++ (later ss ++ (93 ∷ x)))
  first_of s ss x =
      ap (λ l. 91 ∷ l)
      (append_assoc (printed_sort typed s) (later ss ++ 93 ∷ []) x
      ∙ ap (λ l. printed_sort typed s ++ l) (append_assoc (later ss) (93 ∷ []) x))

  next_of : (s : GenericSort) (ss : List GenericSort) (x : Text)
      → later (s ∷ ss) ++ x ≡ 44 ∷ 32 ∷ (printed_sort typed s ++ (later ss ++ x))
  next_of s ss x = ap (λ l. 44 ∷ 32 ∷ l) (append_assoc (printed_sort typed s) (later ss) x)

  closed : (t : GenericSort) (ts : List GenericSort) (x y : Text) → 93 ∷ x ≡ later (t ∷ ts) ++ y → ⊥
  closed t ts x y same = absurd (omega (arith, heads 93 44 _ _ same))

  next_same : (s t : GenericSort) (ss ts : List GenericSort) (x y : Text) → later (s ∷ ss) ++ x ≡ later (t ∷ ts) ++ y
      → printed_sort typed s ++ (later ss ++ x) ≡ printed_sort typed t ++ (later ts ++ y)
  next_same s t ss ts x y same = tails 32 32 _ _ (tails 44 44 _ _ (sym (next_of s ss x) ∙ same ∙ next_of t ts y))

  first_same : (s t : GenericSort) (ss ts : List GenericSort) (x y : Text)
      → brackets (s ∷ ss) ++ x ≡ brackets (t ∷ ts) ++ y
      → printed_sort typed s ++ (later ss ++ (93 ∷ x)) ≡ printed_sort typed t ++ (later ts ++ (93 ∷ y))
  first_same s t ss ts x y same = tails 91 91 _ _ (sym (first_of s ss x) ∙ same ∙ first_of t ts y)

  pub after_brackets : (ss : List GenericSort) (x : Text) → IsAfterSort x → IsAfterName (brackets ss ++ x)
  after_brackets [] x after = no_args x after
  after_brackets (s ∷ ss) x after = opening _

  after_later : (ss : List GenericSort) (x : Text) → IsAfterSort (later ss ++ (93 ∷ x))
  after_later [] x = close_after 93 x (closing refl)
  after_later (s ∷ ss) x = close_after 44 _ (comma refl)

  -- the printed name of a sort and what follows are a plain word and what may stand after a name
  record IsSpelled (s : GenericSort) (x word rest : Text) : Type 0 where
    spelled : printed_sort typed s ++ x ≡ word ++ rest
    plain : IsPlain word
    after : IsAfterName rest

  spelled_read : {s t : GenericSort} {x y w v a b : Text} → IsSpelled s x w a → IsSpelled t y v b
      → printed_sort typed s ++ x ≡ printed_sort typed t ++ y → (w ≡ v) × (a ≡ b)
  spelled_read {w = w} {v = v} {a = a} {b = b} one other same =
      words_read w v a b one.plain other.plain one.after other.after (sym one.spelled ∙ same ∙ other.spelled)

  spelled_int : (s : GenericSort) (x : Text) → s ≡ Int → IsAfterSort x → IsSpelled s x int_name x
  spelled_int s x is after = record {
    spelled = ap (λ z. printed_sort typed z ++ x) (is ∙ sym rolls-Int)
        ∙ ap (λ l. l ++ x) (fold-roll-GenericSort Text (print_step typed) layer.Int);
    plain = int_plain;
    after = no_args x after;
  }

  spelled_boolean : (s : GenericSort) (x : Text) → s ≡ Bool → IsAfterSort x → IsSpelled s x boolean_name x
  spelled_boolean s x is after = record {
    spelled = ap (λ z. printed_sort typed z ++ x) (is ∙ sym rolls-Bool)
        ∙ ap (λ l. l ++ x) (fold-roll-GenericSort Text (print_step typed) layer.Bool);
    plain = boolean_plain;
    after = no_args x after;
  }

  module _ (sorted : IsWellSorted typed) where
    spelled_root : (s : GenericSort) (x : Text) (r : ℕ) (root : TypedRoot) (args : List GenericSort) → s ≡ Root r args
        → slice_get typed.roots r ≡ Some root → IsAfterSort x → IsSpelled s x root.name (brackets args ++ x)
    spelled_root s x r root args is declared after = record {
      spelled = ap (λ z. printed_sort typed z ++ x) (is ∙ sym (rolls-Root r args))
          ∙ ap (λ l. l ++ x) (fold-roll-GenericSort Text (print_step typed) (layer.Root r args))
          ∙ ap (λ o. (root_name o ++ brackets args) ++ x) declared ∙ append_assoc root.name (brackets args) x;
      plain = (sorted.roots r root declared).plain;
      after = after_brackets args x after;
    }

    no_int : (r : ℕ) (root : TypedRoot) → slice_get typed.roots r ≡ Some root → int_name ≡ root.name → ⊥
    no_int r root declared is = (sorted.roots r root declared).no_int (sym is)

    no_boolean : (r : ℕ) (root : TypedRoot) → slice_get typed.roots r ≡ Some root → boolean_name ≡ root.name → ⊥
    no_boolean r root declared is = (sorted.roots r root declared).no_boolean (sym is)

    mutual
      -- texts that begin with printed sorts tell these and the rest
      pub sort_read : {s t : GenericSort} → IsInRange typed.roots 0 s → IsInRange typed.roots 0 t → (x y : Text)
          → IsAfterSort x → IsAfterSort y → printed_sort typed s ++ x ≡ printed_sort typed t ++ y → (s ≡ t) × (x ≡ y)
      sort_read {s} {t} (int_in_range m) (int_in_range n) x y ax ay same =
          (m ∙ sym n, (spelled_read (spelled_int s x m ax) (spelled_int t y n ay) same).1)
      sort_read {s} {t} (int_in_range m) (bool_in_range n) x y ax ay same =
          absurd (int_no_boolean (spelled_read (spelled_int s x m ax) (spelled_boolean t y n ay) same).0)
      sort_read {s} {t} (int_in_range m) (root_in_range q other rest n here _ fine) x y ax ay same =
          absurd (no_int q other here
          (spelled_read (spelled_int s x m ax) (spelled_root t y q other rest n here ay) same).0)
      sort_read {s} {t} (bool_in_range m) (int_in_range n) x y ax ay same =
          absurd (int_no_boolean (spelled_read (spelled_int t y n ay) (spelled_boolean s x m ax) (sym same)).0)
      sort_read {s} {t} (bool_in_range m) (bool_in_range n) x y ax ay same =
          (m ∙ sym n, (spelled_read (spelled_boolean s x m ax) (spelled_boolean t y n ay) same).1)
      sort_read {s} {t} (bool_in_range m) (root_in_range q other rest n here _ fine) x y ax ay same =
          absurd (no_boolean q other here
          (spelled_read (spelled_boolean s x m ax) (spelled_root t y q other rest n here ay) same).0)
      sort_read {s} {t} (root_in_range r root args m there _ good) (int_in_range n) x y ax ay same =
          absurd (no_int r root there
          (spelled_read (spelled_int t y n ay) (spelled_root s x r root args m there ax) (sym same)).0)
      sort_read {s} {t} (root_in_range r root args m there _ good) (bool_in_range n) x y ax ay same =
          absurd (no_boolean r root there
          (spelled_read (spelled_boolean t y n ay) (spelled_root s x r root args m there ax) (sym same)).0)
      sort_read {s} {t} (root_in_range r root args m there _ good) (root_in_range q other rest n here _ fine) x y ax ay
          same =
          let one = spelled_root s x r root args m there ax in
          let both = spelled_read one (spelled_root t y q other rest n here ay) same in
          same_roots r q args rest m n (sorted.roots_differ r q root other there here both.0)
          (brackets_read good fine x y ax ay both.1)
      sort_read {s} {t} (param_in_range i m lt) range x y ax ay same = absurd (omega (arith, lt))
      sort_read {s} {t} range (param_in_range i m lt) x y ax ay same = absurd (omega (arith, lt))

      later_read : {ss ts : List GenericSort} → AreInRange typed.roots 0 ss → AreInRange typed.roots 0 ts
          → (x y : Text) → later ss ++ (93 ∷ x) ≡ later ts ++ (93 ∷ y) → (ss ≡ ts) × (x ≡ y)
      later_read none_in_range none_in_range x y same = (refl, tails 93 93 x y same)
      later_read none_in_range (more_in_range {s = t} {ss = ts} _ _) x y same = absurd (closed t ts x (93 ∷ y) same)
      later_read (more_in_range {s = s} {ss = ss} _ _) none_in_range x y same =
          absurd (closed s ss y (93 ∷ x) (sym same))
      later_read (more_in_range {s = s} {ss = ss} p ps) (more_in_range {s = t} {ss = ts} q qs) x y same =
          let first = sort_read p q (later ss ++ (93 ∷ x)) (later ts ++ (93 ∷ y)) (after_later ss x) (after_later ts y)
          (next_same s t ss ts (93 ∷ x) (93 ∷ y) same) in
          both_more first.0 (later_read ps qs x y first.1)

      -- texts that begin with printed arguments tell these and the rest
      pub brackets_read : {ss ts : List GenericSort} → AreInRange typed.roots 0 ss → AreInRange typed.roots 0 ts
          → (x y : Text) → IsAfterSort x → IsAfterSort y → brackets ss ++ x ≡ brackets ts ++ y → (ss ≡ ts) × (x ≡ y)
      brackets_read none_in_range none_in_range x y ax ay same = (refl, same)
      brackets_read none_in_range (more_in_range {s = t} {ss = ts} _ _) x y ax ay same =
          absurd (no_opening x _ ax (same ∙ first_of t ts y))
      brackets_read (more_in_range {s = s} {ss = ss} _ _) none_in_range x y ax ay same =
          absurd (no_opening y _ ay (sym same ∙ first_of s ss x))
      brackets_read (more_in_range {s = s} {ss = ss} p ps) (more_in_range {s = t} {ss = ts} q qs) x y ax ay same =
          let first = sort_read p q (later ss ++ (93 ∷ x)) (later ts ++ (93 ∷ y)) (after_later ss x) (after_later ts y)
          (first_same s t ss ts x y same) in
          both_more first.0 (later_read ps qs x y first.1)
