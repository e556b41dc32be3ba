-- The lines on why there is no verdict, each with the newline that ends it. Source: own.
use Rattle.std.specs.Prelude.{ℕ, ◌++◌, codes, decimal}
use Rattle.pp_print.specs.Values.{Text}

-- a source has more bytes than a source may have
abbrev pub too_long_text : ℕ → Text
too_long_text source = codes "refused: too long source " ++ (decimal source ++ codes "\n")

-- at this byte of the source, from 0, no character begins
abbrev pub not_utf8_text : ℕ → ℕ → Text
not_utf8_text offset source = codes "refused: not utf-8 at byte " ++
    (decimal offset ++ (codes " of source " ++ (decimal source ++ codes "\n")))

-- the words of the command line aren't accepted
abbrev pub words_text : Text
words_text = codes "words refused\n"

-- what stands at the path can't be read
abbrev pub read_fault_text : Text → Text
read_fault_text path = codes "read fault: " ++ (path ++ codes "\n")

-- an output doesn't take what is put
abbrev pub write_fault_text : Text
write_fault_text = codes "write fault\n"

-- there is no memory
abbrev pub memory_text : Text
memory_text = codes "out of memory\n"
