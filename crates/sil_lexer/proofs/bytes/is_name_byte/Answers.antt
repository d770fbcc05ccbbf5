-- The table is held against the definition at each of the 256 bytes, by computing.
use Rattle.std.proofs.Common.{◌≡◌, ℕ, ◌<◌, true, not, nat_eq, get_or, List, refl, arith}
use Rattle.std.proofs.lemmas.Bool.{agree_below, agree_below_at}
use Rattle.sil_lexer.specs.declared.bytes.TheConstants.{NAME_BYTES}
use Rattle.sil_ast.specs.TextBytes.Bytes.{is_name_byte}
use Rattle.sil_lexer.proofs.bytes.is_name_byte.Goals as goal

from_table : (table : List ℕ) (b : ℕ) → b < 256
    → agree_below (λ k. not (nat_eq (get_or table k 0) 46)) is_name_byte 256 ≡ true
    → not (nat_eq (get_or table b 0) 46) ≡ is_name_byte b
from_table table b below agree = agree_below_at (λ k. not (nat_eq (get_or table k 0) 46)) is_name_byte 256 b agree below

pub returns : goal.returns
returns c = from_table NAME_BYTES c.args.b (omega arith) refl
