-- Values that stand for one value are of one kind.
use Rattle.std.proofs.Common.{◌≡◌, ◌∙◌, ℕ, ℤ, ◌<◌, Bool, false, List, get_or, length, sym, ap, refl}
use Rattle.pp_prog.specs.declared.value.Value.{Value}
use Rattle.pp_prog.specs.declared.value.Value.TheVariants as value
use Rattle.pp_prog.specs.declared.value.Value.TheViews.{out-Value}
use Rattle.pp_store.specs.declared.held.Held.{Held}
use Rattle.pp_store.specs.declared.held.Held.TheVariants.{Int, Bool as Truth, Tree}
use Rattle.pp_store.specs.Values.{IsHeld, value_of}
use Rattle.pp_store.proofs.Nodes.{IsTree}

int_is_no_tree : (n : ℤ) (v : Value) → IsTree v → value.Int n ≡ v → ⊥
int_is_no_tree n v (c, vs, is) e =
    let o = sym (value.outs-Int n) ∙ ap out-Value (e ∙ is) ∙ value.outs-Tree c vs in cc

bool_is_no_tree : (b : Bool) (v : Value) → IsTree v → value.Bool b ≡ v → ⊥
bool_is_no_tree b v (c, vs, is) e =
    let o = sym (value.outs-Bool b) ∙ ap out-Value (e ∙ is) ∙ value.outs-Tree c vs in cc

int_is_no_bool : (n : ℤ) (b : Bool) → value.Int n ≡ value.Bool b → ⊥
int_is_no_bool n b e = let o = sym (value.outs-Int n) ∙ ap out-Value e ∙ value.outs-Bool b in cc

same_int : (n m : ℤ) → value.Int n ≡ value.Int m → n ≡ m
same_int n m e = let o = sym (value.outs-Int n) ∙ ap out-Value e ∙ value.outs-Int m in cc

same_bool : (a b : Bool) → value.Bool a ≡ value.Bool b → a ≡ b
same_bool a b e = let o = sym (value.outs-Bool a) ∙ ap out-Value e ∙ value.outs-Bool b in cc

module _ (trees : List Value) (all : (k : ℕ) → k < length trees → IsTree (get_or trees k (value.Bool false))) where
  -- what isn't two trees stands for one value only if it is one number or one truth value
  pub one_kind : (h g : Held) → IsHeld trees h → IsHeld trees g
      → ((j k : ℕ) → h ≡ Tree j → g ≡ Tree k → ⊥) → value_of trees h ≡ value_of trees g → h ≡ g
  one_kind (Int n) (Int m) is also other e = ap Int (same_int n m e)
  one_kind (Int n) (Truth b) is also other e = absurd (int_is_no_bool n b e)
  one_kind (Int n) (Tree k) is also other e = absurd (int_is_no_tree n (value_of trees (Tree k)) (all k also) e)
  one_kind (Truth a) (Int m) is also other e = absurd (int_is_no_bool m a (sym e))
  one_kind (Truth a) (Truth b) is also other e = ap Truth (same_bool a b e)
  one_kind (Truth a) (Tree k) is also other e = absurd (bool_is_no_tree a (value_of trees (Tree k)) (all k also) e)
  one_kind (Tree j) (Int m) is also other e = absurd (int_is_no_tree m (value_of trees (Tree j)) (all j is) (sym e))
  one_kind (Tree j) (Truth b) is also other e = absurd (bool_is_no_tree b (value_of trees (Tree j)) (all j is) (sym e))
  one_kind (Tree j) (Tree k) is also other e = absurd (other j k refl refl)
