-- What is left to print of a value, where the pieces are on a list and the last of them comes next. Source: own.
use Rattle.std.specs.Prelude.{◌≡◌, ◌<◌, ℕ, ◌+◌, ◌*◌, List, [], ◌∷◌, ◌++◌, codes, map}
use Rattle.std.specs.List.{sum_by}
use Rattle.pp_prog.specs.declared.types.Ctor.{Ctor}
use Rattle.pp_prog.specs.declared.value.Value.{Value}
use Rattle.pp_store.specs.Sizes.{size}
use Rattle.pp_print.specs.declared.value.Piece.{Piece}
use Rattle.pp_print.specs.declared.value.Piece.TheVariants.{First, Next, Close}
use Rattle.pp_print.specs.Values.{Text, after_comma, joined, value_text}

-- how large the values are together
abbrev pub sizes : List Value → ℕ
sizes = sum_by size

-- how much work a piece is
abbrev pub work : Piece → ℕ
work (First v) = 2 * size v.now
work (Next v) = 2 * size v.now
work Close = 1

abbrev pub work_left : List Piece → ℕ
work_left = sum_by work

module _ (ctors : List Ctor) where
  abbrev pub piece_text : Piece → Text
  piece_text (First v) = value_text ctors v.now
  piece_text (Next v) = after_comma (value_text ctors v.now)
  piece_text Close = codes ")"

  -- the text of the pieces, the last of them first
  abbrev pub text_left : List Piece → Text
  text_left [] = []
  text_left (p ∷ ps) = text_left ps ++ piece_text p

  -- the text was added, but for what is pending, which is less work
  pub record Prints (text : Text) (n : ℕ) (pending left : List Piece) (old new : Text) : Type 0 where
    pub printed : new ++ text_left left ≡ old ++ (text ++ text_left pending)
    pub less : work_left left < work_left pending + n

-- the fields and the bracket behind them are pending
pub record AddsFields (pending left : List Piece) (fields : List Value) : Type 0 where
  pub text : (ctors : List Ctor)
      → text_left ctors left ≡ joined (map (value_text ctors) fields) ++ (codes ")" ++ text_left ctors pending)
  pub work : work_left left ≡ work_left pending + (2 * sizes fields + 1)
