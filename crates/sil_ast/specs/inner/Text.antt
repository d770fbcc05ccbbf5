-- Where the bytes of a text stand.
use Rattle.std.specs.Prelude.{ℕ, ◌≤◌, List, take}
use Rattle.sil_ast.specs.declared.text.Bytes.{Bytes}
use Rattle.sil_ast.specs.declared.text.Bytes.TheVariants.{Short, Long}

-- the bytes of a text: in a short one those of its room that it uses
abbrev pub bytes_of : Bytes → List ℕ
bytes_of (Short count bytes) = take count bytes
bytes_of (Long bytes) = bytes.value.items

-- a short text uses no more than its room
abbrev pub IsInRoom : Bytes → Type 0
IsInRoom (Short count bytes) = count ≤ 14
IsInRoom (Long bytes) = Unit {0}
