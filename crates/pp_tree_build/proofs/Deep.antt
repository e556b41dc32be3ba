-- The first root that is too high.
use Rattle.std.proofs.Common.{◌≡◌, ℕ, ◌+◌, ◌<◌, length, get_or, drop, map, List, [], ◌∷◌, ◌++◌, refl, ap, sym, ◌∙◌}
use Rattle.std.proofs.Common.{Bool, true, false, cond, Option, Some, None, option_map}
use Rattle.std.specs.Option.{option_or}
use Rattle.std.specs.Option.{is_some}
use Rattle.std.specs.Prelude.{nat_lt, option_to_list, flat_map}
use Rattle.std.proofs.lemmas.List.{drop_more}
use Rattle.pp_tree.specs.Plain.{Word, ParamTree, TypeTree, Tree, PostTree, DefTree}
use Rattle.pp_tree.specs.Roots.{Root, too_high, contract_roots, stands_before, type_root, written_roots}

or_cond : (b : Bool) (x : ℕ) (o p : Option ℕ) → option_or (cond b (Some x) o) p ≡ cond b (Some x) (option_or o p)
or_cond true x o p = refl
or_cond false x o p = refl

pub too_high_append : (rs qs : List Root) → option_or (too_high rs) (too_high qs) ≡ too_high (rs ++ qs)
too_high_append [] qs = refl
too_high_append (r ∷ rs) qs = or_cond (nat_lt 64 r.levels) r.at (too_high rs) (too_high qs)
    ∙ ap (cond (nat_lt 64 r.levels) (Some r.at)) (too_high_append rs qs)

pub roots_map : {A B : Type 0} (root : A → Root) (f : B → A) (xs : List B)
    → map (λ x. root (f x)) xs ≡ map root (map f xs)
roots_map root f [] = refl
roots_map root f (x ∷ xs) = ap (λ rs. root (f x) ∷ rs) (roots_map root f xs)

pub roots_written : {B : Type 0} (f : B → TypeTree) (o : Option B) → map (λ b. type_root (f b)) (option_to_list o)
    ≡ written_roots (option_map f o)
roots_written f None = refl
roots_written f (Some b) = refl

-- this is the place of the first of the roots that is too high
pub record IsHigh (a : Option ℕ) (rs : List Root) : Type 0 where
  pub is : a ≡ too_high rs

-- two lists, one behind the other
pub or_roots : {a b : Option ℕ} {rs qs : List Root} (d : Option ℕ) → IsHigh a rs → IsHigh b qs
    → d ≡ option_or a b → IsHigh d (rs ++ qs)
or_roots {a} {b} {rs} {qs} d left right both = record {
  is = both ∙ ap (λ x. option_or x b) left.is ∙ ap (option_or (too_high rs)) right.is ∙ too_high_append rs qs;
}

pub high_map : {A B : Type 0} (root : A → Root) (f : B → A) (xs : List B) (a : Option ℕ)
    → a ≡ too_high (map (λ x. root (f x)) xs) → IsHigh a (map root (map f xs))
high_map root f xs a e = record { is = e ∙ ap too_high (roots_map root f xs) }

-- contracts, in the order of the text
pub high_contracts : (rs qs : List Root) (b : Bool) (d : Option ℕ) → b ≡ stands_before qs rs
    → d ≡ too_high (cond b (qs ++ rs) (rs ++ qs)) → d ≡ too_high (contract_roots rs qs)
high_contracts rs qs b d is e = e ∙ ap (λ (z : Bool). too_high (cond z (qs ++ rs) (rs ++ qs))) is

pub high_one : (r : Root) (a : Option ℕ) → a ≡ too_high (r ∷ []) → IsHigh a (r ∷ [])
high_one r a e = record { is = e }

pub high_written : {B : Type 0} (f : B → TypeTree) (o : Option B) (a : Option ℕ)
    → a ≡ too_high (map (λ b. type_root (f b)) (option_to_list o)) → IsHigh a (written_roots (option_map f o))
high_written f o a e = record { is = e ∙ ap too_high (roots_written f o) }

abbrev def_record : ℕ → Word → List Word → List ParamTree → Bool → TypeTree → List Tree → List Tree → Tree
    → Option PostTree → DefTree
def_record at w tps ps l t pre m e post = record {
  at = at;
  name = w;
  type_params = tps;
  params = ps;
  list = l;
  result = t;
  pre = pre;
  measure = m;
  body = e;
  post = post;
}

pub def_same : (at : ℕ) (w : Word) (l : Bool) (t : TypeTree) (e : Tree) (us tps : List Word) (qs ps : List
    ParamTree) (qre pre n m : List Tree) (y x : Option PostTree) → us ≡ tps → qs ≡ ps → qre ≡ pre → n ≡ m → y ≡ x
    → def_record at w us qs l t qre n e y ≡ def_record at w tps ps l t pre m e x
def_same at w l t e us tps qs ps qre pre n m y x tp params pres measure post =
    ap (λ z. def_record at w z qs l t qre n e y) tp ∙ ap (λ z. def_record at w tps z l t qre n e y) params
    ∙ ap (λ z. def_record at w tps ps l t z n e y) pres
    ∙ ap (λ z. def_record at w tps ps l t pre z e y) measure ∙ ap (λ z. def_record at w tps ps l t pre m e z) post

-- the first of a list of declarations
pub deep_step : {A : Type 0} (f : A → List Root) (xs : List A) (i : ℕ) (x : A) (d : Option ℕ) → i < length xs
    → x ≡ get_or xs i x → d ≡ too_high (f x) → too_high (flat_map f (drop i xs)) ≡ option_or d (too_high (flat_map
    f (drop (i + 1) xs)))
deep_step f xs i x d below is_item is_deep =
    let rest = flat_map f (drop (i + 1) xs) in
    ap (λ ys. too_high (flat_map f ys)) (drop_more xs i x below) ∙ sym (too_high_append (f (get_or xs i x)) rest)
    ∙ ap (λ o. option_or o (too_high rest)) (ap (λ y. too_high (f y)) (sym is_item) ∙ sym is_deep)

pub or_some : (d o : Option ℕ) → is_some d ≡ true → option_or d o ≡ d
or_some None o h = cc
or_some (Some x) o h = refl

pub or_none : (d o : Option ℕ) → is_some d ≡ false → option_or d o ≡ o
or_none None o h = refl
or_none (Some x) o h = cc

pub flat_map_map : {A B : Type 0} (f : B → List Root) (g : A → B) (xs : List A)
    → flat_map (λ x. f (g x)) xs ≡ flat_map f (map g xs)
flat_map_map f g [] = refl
flat_map_map f g (x ∷ xs) = ap (λ rs. f (g x) ++ rs) (flat_map_map f g xs)
