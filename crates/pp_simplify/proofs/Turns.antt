-- Steps that are folded one after another.
use Rattle.std.proofs.Common.{◌≡◌, ℕ, zero, suc, ◌+◌, ◌<◌, ◌≤◌, Bool, true, false, List, [], ◌∷◌, ◌++◌, length, map}
use Rattle.std.proofs.Common.{slice_get, slice_index_or, take, Option, Some, None, refl, sym, ap, ◌∙◌, arith, subst}
use Rattle.std.proofs.Common.{inl, inr}
use Rattle.std.proofs.lemmas.List.{take_all, take_more}
use Rattle.pp_prog.specs.declared.id.CtorId.{CtorId}
use Rattle.pp_steps.proofs.Counting.{add_suc, plus_zero}
use Rattle.pp_steps.specs.declared.step.Step.{Step}
use Rattle.pp_steps.specs.declared.step.Step.TheVariants as steps
use Rattle.pp_steps.specs.Compile.{number_or}
use Rattle.pp_steps.specs.Reads.{AllRead, Below, Reads}
use Rattle.pp_simplify.specs.Folded.{Folding, all_folded, both, bool_at, chosen, folded, folded_from, next}
use Rattle.pp_simplify.specs.Folded.{nothing_folded, source, taken, tested, turned}
use Rattle.pp_simplify.specs.Literals.{computed}
use Rattle.pp_simplify.specs.Names.{Names, named}
use Rattle.pp_simplify.specs.Operands.{renamed}
use Rattle.pp_simplify.proofs.Cones.{reads_at}
use Rattle.pp_simplify.proofs.Stating.{stated_by}
use Rattle.pp_simplify.proofs.Naming.{IsSource, named_push, source_or}

-- steps behind others
pub folded_behind : (f : Folding) (xs ys : List Step) → folded_from f (xs ++ ys) ≡ folded_from (folded_from f xs) ys
folded_behind f [] ys = refl
folded_behind f (x ∷ xs) ys = folded_behind (next f x) xs ys

-- one more step at the end
pub folded_more : (f : Folding) (ss : List Step) (s : Step) → folded_from f (ss ++ s ∷ []) ≡ next (folded_from f ss) s
folded_more f ss s = folded_behind f ss (s ∷ [])

-- ---- a turn of the loop

-- the first i steps are folded
pub record AreFolded (ss : List Step) (i : ℕ) (news : List Step) (names : Names) : Type 0 where
  pub steps : news ≡ (all_folded (take i ss)).steps
  pub named : names ≡ (all_folded (take i ss)).names

pub folded_turn : (ss : List Step) (i m : ℕ) (s t : Step) (o : Option ℕ) (news more : List Step) (names called : Names)
    → i < length ss → m ≡ i + 1 → s ≡ slice_index_or ss i s → AreFolded ss i news names
    → t ≡ folded news (renamed (named names) s) → o ≡ source news t → more ≡ news ++ t ∷ []
    → called ≡ names ++ o ∷ [] → AreFolded ss m more called
folded_turn ss i m s t o news more names called lt e item h is from pushed listed =
    let taken : take m ss ≡ take i ss ++ s ∷ [] =
    ap (λ n. take n ss) e ∙ take_more ss i s lt ∙ ap (λ x. take i ss ++ x ∷ []) (sym item) in
    let turn : all_folded (take m ss) ≡ next (all_folded (take i ss)) s =
    ap all_folded taken ∙ folded_more nothing_folded (take i ss) s in
    let f : Folding = all_folded (take i ss) in
    let same : t ≡ folded f.steps (renamed (named f.names) s) =
    is ∙ ap (λ l. folded l (renamed (named names) s)) h.steps
    ∙ ap (λ l. folded f.steps (renamed (named l) s)) h.named in
    record {
      steps = pushed ∙ ap (λ l. l ++ t ∷ []) h.steps ∙ ap (λ x. f.steps ++ x ∷ []) same
          ∙ ap (λ (g : Folding). g.steps) (sym turn);
      named = listed ∙ ap (λ l. l ++ o ∷ []) h.named
          ∙ ap (λ x. f.names ++ x ∷ []) (from ∙ ap (λ l. source l t) h.steps ∙ ap (source f.steps) same)
          ∙ ap (λ (g : Folding). g.names) (sym turn);
    }

pub folded_end : (ss : List Step) (i : ℕ) (news : List Step) (names : Names) → length ss ≤ i → AreFolded ss i news names
    → (news ≡ (all_folded ss).steps) × (names ≡ (all_folded ss).names)
folded_end ss i news names le h =
    let all : take i ss ≡ ss = take_all i ss le in (
      h.steps ∙ ap (λ l. (all_folded l).steps) all,
      h.named ∙ ap (λ l. (all_folded l).names) all,
    )

-- ---- folded steps look at earlier ones

turned_reads : (k a : ℕ) (o : Option Bool) → a < k → Reads k (turned a o)
turned_reads k a None lt = lt
turned_reads k a (Some b) lt = tt

both_reads : (k a b : ℕ) (x y : Option Bool) → a < k → b < k → Reads k (both a b x y)
both_reads k a b (Some false) y l m = tt
both_reads k a b (Some true) (Some y) l m = tt
both_reads k a b (Some true) None l m = (l, m)
both_reads k a b None (Some false) l m = tt
both_reads k a b None (Some true) l m = (l, m)
both_reads k a b None None l m = (l, m)

taken_reads : (k c a : ℕ) (x : Option Bool) → c < k → a < k → Reads k (taken c a x)
taken_reads k c a (Some v) l m = tt
taken_reads k c a None l m = (l, m, m)

chosen_reads : (k c a b : ℕ) (o x y : Option Bool) → c < k → a < k → b < k → Reads k (chosen c a b o x y)
chosen_reads k c a b (Some true) x y l m n = taken_reads k c a x l m
chosen_reads k c a b (Some false) x y l m n = taken_reads k c b y l n
chosen_reads k c a b None x y l m n = (l, m, n)

tested_reads : (k : ℕ) (c : CtorId) (n a : ℕ) (o : Option Step) → a < k → Reads k (tested c n a o)
tested_reads k c n a (Some (steps.Construct d fields)) lt = tt
tested_reads k c n a o lt = lt

folded_reads : (k : ℕ) (news : List Step) (s : Step) → Reads k s → Reads k (folded news s)
folded_reads k news (steps.Not a) r = turned_reads k a (bool_at news a) r
folded_reads k news (steps.Both a b) r = both_reads k a b (bool_at news a) (bool_at news b) r.0 r.1
folded_reads k news (steps.Choose c a b) r =
    chosen_reads k c a b (bool_at news c) (bool_at news a) (bool_at news b) r.0 r.1 r.2
folded_reads k news (steps.IsCtor c n a) r = tested_reads k c n a (slice_get news a) r
folded_reads k news s r = stated_by (Reads k) s (computed news s) r (λ n e. tt) (λ b e. tt)

-- ---- and so do their names

module _ (r : ℕ → ℕ) (k : ℕ) (low : (a : ℕ) → r a ≤ a) where
  lower : (a : ℕ) → a < k → r a < k
  lower a lt = let le = low a in omega arith

  all_lower : (ns : List ℕ) → Below k ns → Below k (map r ns)
  all_lower [] b = tt
  all_lower (n ∷ ns) b = (lower n b.0, all_lower ns b.1)

  renamed_reads : (s : Step) → Reads k s → Reads k (renamed r s)
  renamed_reads (steps.Open s) b = tt
  renamed_reads (steps.Int n) b = tt
  renamed_reads (steps.Bool v) b = tt
  renamed_reads (steps.Not a) b = lower a b
  renamed_reads (steps.Both x y) b = (lower x b.0, lower y b.1)
  renamed_reads (steps.Choose c x y) b = (lower c b.0, lower x b.1, lower y b.2)
  renamed_reads (steps.Unary op a) b = lower a b
  renamed_reads (steps.Binary op x y) b = (lower x b.0, lower y b.1)
  renamed_reads (steps.Construct c fields) b = all_lower fields b
  renamed_reads (steps.IsCtor c n a) b = lower a b
  renamed_reads (steps.CtorField c i a) b = lower a b
  renamed_reads (steps.Field a i) b = lower a b
  renamed_reads (steps.IsAlike x y) b = (lower x b.0, lower y b.1)
  renamed_reads (steps.GoesDown x y) b = (lower x b.0, lower y b.1)
  renamed_reads (steps.HasAnswer c) b = (lower c.reach b.0, all_lower c.args b.1)
  renamed_reads (steps.Answer c) b = (lower c.reach b.0, all_lower c.args b.1)

-- the steps look at earlier ones, each has a name or none, and no name is a later step
pub record Reading (f : Folding) : Type 0 where
  pub reads : AllRead 0 f.steps
  pub many : length f.names ≡ length f.steps
  pub low : (k : ℕ) → named f.names k ≤ k

reads_push : (k : ℕ) (ss : List Step) (t : Step) → AllRead k ss → Reads (k + length ss) t → AllRead k (ss ++ t ∷ [])
reads_push k [] t reads r = (subst (λ n. Reads n t) (plus_zero k) r, tt)
reads_push k (x ∷ ss) t reads r =
    (reads.0, reads_push (suc k) ss t reads.1 (subst (λ n. Reads n t) (add_suc k (length ss)) r))

at_most : (k : ℕ) → k ≤ k
at_most k = omega arith

within : (k n a : ℕ) → n < a → a < k → n < k
within k n a l m = omega arith

less : (k a : ℕ) → a < k → a ≤ k
less k a l = omega arith

pub push_length : {X : Type 0} (xs : List X) (y : X) → length (xs ++ y ∷ []) ≡ suc (length xs)
push_length [] y = refl
push_length (x ∷ xs) y = ap suc (push_length xs y)

listed : (fields : List ℕ) (i n : ℕ) → slice_get fields i ≡ Some n → (k : ℕ) → Below k fields → n < k
listed [] i n at k b = absurd (cc)
listed (x ∷ fields) zero n at k b = let e : x ≡ n = same x n at in subst (λ y. y < k) e b.0
  where
    same : (x y : ℕ) → Some x ≡ Some y → x ≡ y
    same x y e = cc
listed (x ∷ fields) (suc i) n at k b = listed fields i n at k b.1

-- the source of a step is an earlier one
pub source_below : (k : ℕ) (news : List Step) (t : Step) (n : ℕ) → AllRead 0 news → Reads k t → IsSource news t n
    → n < k
source_below k news t n reads r (inl h) = let b = subst (Reads k) h.is r in b.1
source_below k news t n reads r (inr h) =
    within k n h.operand
    (listed h.fields h.place n h.there h.operand (reads_at news h.operand (steps.Construct h.made h.fields) reads h.at))
    (subst (Reads k) h.is r)

-- what stands in the place of a step looks at earlier ones
pub next_reads : (f : Folding) (s : Step) → Reading f → Reads (length f.steps) s
    → Reads (length f.steps) (folded f.steps (renamed (named f.names) s))
next_reads f s h r =
    folded_reads (length f.steps) f.steps (renamed (named f.names) s)
    (renamed_reads (named f.names) (length f.steps) h.low s r)

pub reading_next : (f : Folding) (s : Step) → Reading f → Reads (length f.steps) s → Reading (next f s)
reading_next f s h r =
    let k = length f.steps in
    let t = folded f.steps (renamed (named f.names) s) in
    let is = next_reads f s h r in
    record {
      reads = reads_push 0 f.steps t h.reads (subst (λ n. Reads n t) (sym (zero_plus k)) is);
      many = push_length f.names (source f.steps t) ∙ ap suc h.many ∙ sym (push_length f.steps t);
      low = named_push (λ i n. n ≤ i) f.names (source f.steps t) h.low
          (subst (λ n. number_or n (source f.steps t) ≤ n) (sym h.many)
          (source_or f.steps (λ n. n ≤ k) k t (at_most k) (λ n o. less k n (source_below k f.steps t n h.reads is o))));
    }
  where
    zero_plus : (k : ℕ) → 0 + k ≡ k
    zero_plus k = omega arith

pub reading_from : (f : Folding) (ss : List Step) → Reading f → AllRead (length f.steps) ss
    → Reading (folded_from f ss)
reading_from f [] h reads = h
reading_from f (s ∷ ss) h reads =
    let t = folded f.steps (renamed (named f.names) s) in
    reading_from (next f s) ss (reading_next f s h reads.0)
    (subst (λ n. AllRead n ss) (sym (push_length f.steps t)) reads.1)

pub reading_nothing : Reading nothing_folded
reading_nothing = record { reads = tt; many = refl; low = λ k. at_most k }

pub reading : (ss : List Step) → AllRead 0 ss → Reading (all_folded ss)
reading ss reads = reading_from nothing_folded ss reading_nothing reads

-- ---- and they are as many

many_from : (f : Folding) (ss : List Step) → length (folded_from f ss).steps ≡ length f.steps + length ss
many_from f [] = sym (plus_zero (length f.steps))
many_from f (s ∷ ss) =
    let t = folded f.steps (renamed (named f.names) s) in
    many_from (next f s) ss ∙ ap (λ n. n + length ss) (push_length f.steps t)
    ∙ sym (add_suc (length f.steps) (length ss))

pub as_many : (ss : List Step) → length (all_folded ss).steps ≡ length ss
as_many ss = many_from nothing_folded ss ∙ zero_plus (length ss)
  where
    zero_plus : (k : ℕ) → 0 + k ≡ k
    zero_plus k = omega arith
