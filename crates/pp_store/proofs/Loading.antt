-- What is left to do while a value comes into a store, and what was loaded so far.
use Rattle.std.proofs.Common.{◌≡◌, ◌∙◌, ℕ, ◌<◌, List, [], ◌∷◌, ◌++◌, All, length, map, reverse, take, drop, refl}
use Rattle.std.proofs.Common.{sym, ap, subst}
use Rattle.std.specs.List.{sum_by}
use Rattle.std.proofs.lemmas.List.{drop-map, map_push, take-map}
use Rattle.std.proofs.lemmas.List.Elements.{All-drop, All-head, All-nil, All-push, All-take}
use Rattle.pp_prog.specs.declared.id.CtorId.{CtorId}
use Rattle.pp_prog.specs.declared.value.Value.{Value}
use Rattle.pp_prog.specs.declared.value.Value.TheOpen as layer
use Rattle.pp_prog.specs.declared.value.Value.TheVariants as value
use Rattle.pp_prog.specs.declared.value.Value.TheViews.{out-Value, roll-Value, roll-out-Value}
use Rattle.pp_store.specs.declared.held.Held.{Held}
use Rattle.pp_store.specs.declared.held.Held.TheVariants as held
use Rattle.pp_store.specs.declared.load.Pending.{Pending}
use Rattle.pp_store.specs.Values.{AreHeld, Extends, IsBefore, StandsFor, value_of, values_of}
use Rattle.pp_store.specs.Work.{IsLoaded, IsMade, Step, Put, Join, step_of, steps_of}
use Rattle.pp_store.proofs.Pairs.{all_from_reverse, all_right, all_reverse, reverse_cons, reverse_push}
use Rattle.pp_store.proofs.Steps.{ComesTo, finish, joined_comes, joined_less, only_value, opened_comes, opened_less}
use Rattle.pp_store.proofs.Steps.{put_comes, put_less, work}
use Rattle.pp_store.proofs.Values.{extends_all_held, extends_refl, extends_trans, extends_values}

-- ---- a value by its outermost layer

int_is : (v : Value) (n : _) → out-Value v ≡ layer.Int n → v ≡ value.Int n
int_is v n e = sym (roll-out-Value v) ∙ ap roll-Value e ∙ value.rolls-Int n

bool_is : (v : Value) (b : _) → out-Value v ≡ layer.Bool b → v ≡ value.Bool b
bool_is v b e = sym (roll-out-Value v) ∙ ap roll-Value e ∙ value.rolls-Bool b

tree_is : (v : Value) (c : CtorId) (fields : List Value) → out-Value v ≡ layer.Tree c fields → v ≡ value.Tree c fields
tree_is v c fields e = sym (roll-out-Value v) ∙ ap roll-Value e ∙ value.rolls-Tree c fields

-- ---- what is left

-- how much work is left
abbrev pub work_of : List Pending → ℕ
work_of pending = sum_by work (steps_of pending)

-- what is left comes to the value alone, with what was loaded, in a store that has grown
pub record IsLoading (old now : List Value) (v : Value) (pending : List Pending) (helds : List Held) : Type 0 where
  pub extends : Extends old now
  pub held : AreHeld now helds
  pub comes : ComesTo v (steps_of pending) (values_of now helds)

pub loading_first : (trees : List Value) (v : Value) (pending : List Pending) (p : Pending)
    → pending ≡ [] ++ p ∷ [] → step_of p ≡ Put v → IsLoading trees trees v pending []
loading_first trees v pending p e f =
    record {
      extends = extends_refl trees;
      held = All-nil (IsBefore (length trees));
      comes = ap (λ (l : List Step). finish (reverse l) []) (ap steps_of e) ∙ ap (λ (s : Step). finish (s ∷ []) []) f;
    }

module _ (pending rest : List Pending) (p : Pending) (popped : pending ≡ rest ++ p ∷ []) where
  popped_steps : steps_of pending ≡ steps_of rest ++ step_of p ∷ []
  popped_steps = ap steps_of popped ∙ map_push step_of rest p

  -- ---- a value was loaded, or the steps to it were added

  pub loaded_less : (w : Value) (y : layer.Value-F Value) (next : List Pending) (helds new : List Held)
      → step_of p ≡ Put w → out-Value w ≡ y → IsLoaded (steps_of rest) (steps_of next) helds new y
      → work_of next < work_of pending
  loaded_less w (layer.Int n) next helds new e out is =
      put_less (steps_of pending) (steps_of rest) (step_of p) popped_steps w (steps_of next) e is.0
  loaded_less w (layer.Bool b) next helds new e out is =
      put_less (steps_of pending) (steps_of rest) (step_of p) popped_steps w (steps_of next) e is.0
  loaded_less w (layer.Tree c fields) next helds new e out is =
      opened_less (steps_of pending) (steps_of rest) (step_of p) popped_steps w c fields (steps_of next) e
      (tree_is w c fields out) is.0

  pub made_less : (c : CtorId) (n : ℕ) → step_of p ≡ Join c n → work_of rest < work_of pending
  made_less c n e = joined_less (steps_of pending) (steps_of rest) (step_of p) popped_steps c n e

  module _ (old now : List Value) (v : Value) (helds : List Held) (is : IsLoading old now v pending helds) where
    leaf : (w : Value) (h : Held) (next : List Pending) (new : List Held) → step_of p ≡ Put w
        → IsBefore (length now) h → value_of now h ≡ w → steps_of next ≡ steps_of rest → new ≡ helds ++ h ∷ []
        → IsLoading old now v next new
    leaf w h next new e within stands same grows =
        record {
          extends = is.extends;
          held = subst (λ (hs : List Held). AreHeld now hs) (sym grows)
              (All-push (IsBefore (length now)) helds h is.held within);
          comes = put_comes (steps_of pending) (steps_of rest) (step_of p) popped_steps v (values_of now helds) is.comes
              w (steps_of next) (values_of now new) e same
              (ap (values_of now) grows ∙ map_push (value_of now) helds h
              ∙ ap (λ (u : Value). values_of now helds ++ u ∷ []) stands);
        }

    pub loaded_next : (w : Value) (y : layer.Value-F Value) (next : List Pending) (new : List Held) → step_of p ≡ Put w
        → out-Value w ≡ y → IsLoaded (steps_of rest) (steps_of next) helds new y → IsLoading old now v next new
    loaded_next w (layer.Int n) next new e out l = leaf w (held.Int n) next new e tt (sym (int_is w n out)) l.0 l.1
    loaded_next w (layer.Bool b) next new e out l = leaf w (held.Bool b) next new e tt (sym (bool_is w b out)) l.0 l.1
    loaded_next w (layer.Tree c fields) next new e out l =
        record {
          extends = is.extends;
          held = subst (λ (hs : List Held). AreHeld now hs) (sym l.1) is.held;
          comes = opened_comes (steps_of pending) (steps_of rest) (step_of p) popped_steps v (values_of now helds)
              is.comes w c fields (steps_of next) (values_of now new) e (tree_is w c fields out) l.0
              (ap (values_of now) l.1);
        }

    -- a tree was made of what was loaded last
    pub made_next : (c : CtorId) (n : ℕ) (more : List Value) (new : List Held) → step_of p ≡ Join c n
        → Extends now more → IsMade c n now more helds new → IsLoading old more v rest new
    made_next c n more new e grows made =
        record {
          extends = extends_trans old now more is.extends grows;
          held = made.held;
          comes = joined_comes (steps_of pending) (steps_of rest) (step_of p) popped_steps v (values_of now helds)
              is.comes c n (values_of more new) e made.tree;
        }

-- ---- a tree is made of the last ones

map_reverse : {A B : Type 0} (f : A → B) (xs : List A) → map f (reverse xs) ≡ reverse (map f xs)
map_reverse f [] = refl
map_reverse f (x ∷ xs) =
    ap (map f) (reverse_cons x xs) ∙ map_push f (reverse xs) x ∙ ap (λ l. l ++ f x ∷ []) (map_reverse f xs)
    ∙ sym (reverse_cons (f x) (map f xs))

module _ (trees : List Value) (helds : List Held) (are : AreHeld trees helds) (n : ℕ) where
  last_values : values_of trees (take n (reverse helds)) ≡ take n (reverse (values_of trees helds))
  last_values =
      sym (take-map (value_of trees) n (reverse helds)) ∙ ap (take n) (map_reverse (value_of trees) helds)

  pub last_held : (fields : List Held) → fields ≡ take n (reverse helds) → AreHeld trees fields
  last_held fields e =
      let P : Held → Type 0 = IsBefore (length trees) in
      subst (All P) (sym e) (All-take P n (reverse helds) (all_reverse P helds are))

  -- the other ones
  module _ (rest : List Held) (left : reverse rest ≡ drop n (reverse helds)) where
    rest_held : AreHeld trees rest
    rest_held =
        let P : Held → Type 0 = IsBefore (length trees) in
        all_from_reverse P rest (subst (All P) (sym left) (All-drop P n (reverse helds) (all_reverse P helds are)))

    rest_values : reverse (values_of trees rest) ≡ drop n (reverse (values_of trees helds))
    rest_values =
        sym (map_reverse (value_of trees) rest) ∙ ap (map (value_of trees)) left
        ∙ sym (drop-map (value_of trees) n (reverse helds)) ∙ ap (drop n) (map_reverse (value_of trees) helds)

    pub is_made : (c : CtorId) (fields : List Held) (more : List Value) (h : Held) (new : List Held)
        → fields ≡ take n (reverse helds) → Extends trees more
        → StandsFor more h (value.Tree c (values_of trees fields)) → new ≡ rest ++ h ∷ []
        → IsMade c n trees more helds new
    is_made c fields more h new taken grows stands e =
        record {
          held = subst (λ (hs : List Held). AreHeld more hs) (sym e)
              (All-push (IsBefore (length more)) rest h (extends_all_held trees more grows rest rest_held) stands.held);
          tree = ap (λ (hs : List Held). reverse (values_of more hs)) e
              ∙ ap reverse (map_push (value_of more) rest h)
              ∙ reverse_push (values_of more rest) (value_of more h)
              ∙ ap (λ (vs : List Value). value_of more h ∷ reverse vs) (extends_values trees more grows rest rest_held)
              ∙ ap (λ (vs : List Value). value_of more h ∷ vs) rest_values
              ∙ ap (λ (v : Value). v ∷ drop n (reverse (values_of trees helds)))
              (stands.value
              ∙ ap (λ (vs : List Value). value.Tree c vs) (ap (values_of trees) taken ∙ last_values));
        }

-- ---- nothing is left

pub only_loaded : (old now : List Value) (v : Value) (pending : List Pending) (helds : List Held)
    → IsLoading old now v pending helds → pending ≡ [] → values_of now helds ≡ v ∷ []
only_loaded old now v pending helds is e =
    only_value v (steps_of pending) (values_of now helds) is.comes (ap steps_of e)

first_value : (now : List Value) (v : Value) (helds rest : List Held) (h : Held) → helds ≡ rest ++ h ∷ []
    → values_of now helds ≡ v ∷ [] → value_of now h ≡ v
first_value now v helds [] h e all = let o = sym (ap (values_of now) e) ∙ all in cc
first_value now v helds (g ∷ []) h e all = let o = sym (ap (values_of now) e) ∙ all in cc
first_value now v helds (g ∷ k ∷ rest) h e all = let o = sym (ap (values_of now) e) ∙ all in cc

pub loaded : (old now : List Value) (v : Value) (pending : List Pending) (helds rest : List Held) (h : Held)
    → IsLoading old now v pending helds → pending ≡ [] → helds ≡ rest ++ h ∷ [] → StandsFor now h v
loaded old now v pending helds rest h is none e =
    let P : Held → Type 0 = IsBefore (length now) in
    record {
      held = All-head P h [] (all_right P rest (h ∷ []) (subst (All P) e is.held));
      value = first_value now v helds rest h e (only_loaded old now v pending helds is none);
    }

pub some_loaded : (old now : List Value) (v : Value) (pending : List Pending) (helds : List Held)
    → IsLoading old now v pending helds → pending ≡ [] → helds ≡ [] → ⊥
some_loaded old now v pending helds is none e =
    let o = sym (ap (values_of now) e) ∙ only_loaded old now v pending helds is none in cc
