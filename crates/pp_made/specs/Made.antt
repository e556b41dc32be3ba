-- The source of a seed. Source: own.
use Rattle.std.specs.Prelude.{ℕ, List, [], ◌∷◌, ◌++◌, ◌+◌, codes, decimal, map}
use Rattle.std.specs.List.{concat, range_with_len}

-- the bytes of a text
abbrev pub Text : Type 0
Text = List ℕ

-- the object's first line, and the type of lists
abbrev pub opening : Text
opening = concat (
    codes "object Made {\n"
    ∷ codes "  sealed abstract class L\n"
    ∷ codes "  case class Cons(h: Int, t: L) extends L\n"
    ∷ codes "  case class Nil() extends L\n"
    ∷ [])

-- the function of a number that counts a list, up to the bound
abbrev pub count_with : ℕ → ℕ → List Text
count_with number bound =
    codes "  def count" ∷ decimal number ∷ codes "(l: L): Int = {\n"
    ∷ codes "    decreases(l)\n"
    ∷ codes "    l match {\n"
    ∷ codes "      case Cons(_, t) =>\n"
    ∷ codes "        val n = count" ∷ decimal number ∷ codes "(t)\n"
    ∷ codes "        if (n >= " ∷ decimal bound ∷ codes ") " ∷ decimal bound ∷ codes " else n + 1\n"
    ∷ codes "      case Nil() => 0\n"
    ∷ codes "    }\n"
    ∷ codes "  } ensuring (res => 0 <= res && res <= " ∷ decimal bound ∷ codes ")\n"
    ∷ []

-- the function of a number that steps up to the bound, and from it to 0
abbrev pub step_with : ℕ → ℕ → List Text
step_with number bound =
    codes "  def step" ∷ decimal number ∷ codes "(x: Int): Int = {\n"
    ∷ codes "    require(0 <= x && x <= " ∷ decimal bound ∷ codes ")\n"
    ∷ codes "    if (x < " ∷ decimal bound ∷ codes ") x + 1 else 0\n"
    ∷ codes "  } ensuring (res => 0 <= res && res <= " ∷ decimal bound ∷ codes ")\n"
    ∷ []

-- the two functions of a number, with their bound
abbrev pub functions_text : ℕ → Text
functions_text number = concat (count_with number (10 + number)) ++ concat (step_with number (10 + number))

-- the functions of the numbers from 1 to the last
abbrev pub functions_to : ℕ → Text
functions_to last = concat (map functions_text (range_with_len 1 last))

-- an object with the functions of the numbers from 1 to the seed
abbrev pub made_source : ℕ → Text
made_source seed = opening ++ (functions_to seed ++ codes "}\n")
