-- The code's sections and symbols as the headers and entries of the definition.
use Rattle.elf.specs.Elf.{Header, Entry}
use Rattle.elf.specs.declared.Section.{Section}
use Rattle.elf.specs.declared.Symbol.{Symbol}

abbrev pub header_of : Section → Header
header_of s =
    record {
      name = s.name;
      kind = s.sh_type;
      flags = s.flags;
      at = s.at;
      size = s.size;
      link = s.link;
      info = s.info;
      align = s.align;
      entry = s.entsize;
    }

abbrev pub null_section : Section
null_section = record {
  name = 0;
  sh_type = 0;
  flags = 0;
  at = 0;
  size = 0;
  link = 0;
  info = 0;
  align = 1;
  entsize = 0;
}

abbrev pub entry_of : Symbol → Entry
entry_of s = record { name = s.name; info = s.info; section = s.section; at = s.value; size = s.size }

abbrev pub null_symbol : Symbol
null_symbol = record { name = 1; info = 0; section = 0; value = 0; size = 0 }
