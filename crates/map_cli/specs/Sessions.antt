-- Words that ask for a session.
use Rattle.std.specs.Prelude.{Bool, false, List, [], ◌∷◌, String, string_bytes, codes}
use Rattle.std.specs.declared.alloc.Global.{Global}
use Rattle.std.specs.Str.{bytes_eq}

-- the first word is that of the command
abbrev pub asks_session : List (String Global) → Bool
asks_session [] = false
asks_session (word ∷ more) = bytes_eq (string_bytes word) (codes "session")
