-- The edge jobs that document 01 marks P, with every figure that it gives for them. proofs/Right.antt proves that each job is accepted and
-- its object has these figures.
use Rattle.std.specs.Prelude.{Bool, true, false, ◌&&◌, List, [], ◌∷◌}
use Prim.Native.String.{String}
use Rattle.octets.specs.Octets.{ascii}
use Rattle.job.specs.Answer.{answer, made, refused}
use Rattle.edges.specs.Figures.{Figure, size, table, sections, begins, spans, has, types, strings, holds, starts, symbol, figures_of}

pub record Row : Type 0 where
  pub job : String
  pub figures : List Figure

-- the job is accepted with an output of 65,536 bytes, and its object has the figures
abbrev pub right : Row → Bool
right r = elim (answer (ascii r.job) 65536) [ made o ↦ figures_of o r.figures | refused n l k ↦ false ]

abbrev pub all : List Row → Bool
all [] = true
all (r ∷ rs) = right r && all rs

abbrev no_lines : Row
no_lines =
    record {
      job = "";
      figures =
          size 488 ∷ spans "license" 64 68 ∷ begins ".symtab" 72 ∷ begins ".strtab" 120 ∷ begins ".shstrtab" 130 ∷ table 168 ∷ sections 5 ∷ [];
    }

abbrev empty_licence : Row
empty_licence = record { job = "01\n"; figures = size 488 ∷ has "license" 1 ∷ [] }

abbrev licence_of_seven : Row
licence_of_seven = record { job = "0161626364656667\n"; figures = size 488 ∷ [] }

abbrev licence_of_eight : Row
licence_of_eight = record { job = "016162636465666768\n"; figures = size 496 ∷ [] }

abbrev hits : Row
hits =
    record { job = "02010701020004000068697473\n"; figures = has ".BTF" 359 ∷ types 276 ∷ strings 59 ∷ size 1048 ∷ [] }

abbrev hits_used : Row
hits_used =
    record {
      job = "02010701020004000068697473\n030378647070\n06180100000000000000\n06000000000000000000\n05000000000000000068697473\n";
      figures =
          size 1248 ∷ holds ".relxdp" "00000000000000000100000002000000" ∷ starts "xdp" "1801" ∷ [];
    }

abbrev ringbuf : Row
ringbuf = record { job = "021b0072\n"; figures = has ".maps" 8 ∷ has ".BTF" 238 ∷ [] }

-- max_entries present with 0 is present
abbrev ringbuf_of_zero : Row
ringbuf_of_zero = record { job = "021b040000000072\n"; figures = has ".maps" 16 ∷ [] }

-- the first map's symbol follows the null symbol and `LICENSE`; the names are `9a`, `é` and the empty one
abbrev digit_first : Row
digit_first = record { job = "0201003961\n"; figures = symbol 2 "_a" ∷ [] }

abbrev two_byte_character : Row
two_byte_character = record { job = "020100c3a9\n"; figures = symbol 2 "_" ∷ [] }

abbrev no_name : Row
no_name = record { job = "020100\n"; figures = symbol 2 "_solnix_symbol" ∷ [] }

abbrev pub rows : List Row
rows =
    no_lines ∷ empty_licence ∷ licence_of_seven ∷ licence_of_eight ∷ hits ∷ hits_used ∷ ringbuf ∷ ringbuf_of_zero ∷ digit_first ∷ two_byte_character
    ∷ no_name ∷ []
