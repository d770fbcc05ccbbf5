-- The entries of a table, as they lie in memory.
use Rattle.std.specs.Prelude.{◌≤◌, ◌<◌, ◌+◌, ◌^◌, ◌==◌, ℕ, List, Bool, Option, bit_and, length, map, slice_index_or, drop}
use Rattle.std.specs.List.{position, range_with_len}
use Rattle.number_tables.specs.TableByNumber.Numbers.{Numbers}
use Rattle.number_tables.specs.declared.table_by_number.entry.Entry.{Entry}
use Rattle.number_tables.specs.TableByNumber.inner.Chains.{AreChains, TOP}

abbrev pub no_entry : Entry
no_entry = record { key = 0; next = 0 }

abbrev pub empty_head : Entry
empty_head = record { key = TOP; next = 0 }

abbrev pub key_at : List Entry → ℕ → ℕ
key_at entries e = (slice_index_or entries e no_entry).key

abbrev pub next_at : List Entry → ℕ → ℕ
next_at entries e = (slice_index_or entries e no_entry).next

-- the entries of the slots
abbrev pub slot_entries : ℕ → List Entry → List Entry
slot_entries mask entries = drop (mask + 2) entries

abbrev pub has_key : ℕ → Entry → Bool
has_key k e = e.key == k

-- the slot whose key is that of the number
abbrev pub slot_with : List Entry → ℕ → Option ℕ
slot_with slots n = position (has_key (n + 1)) slots

abbrev pub numbers_in : ℕ → List Entry → ℕ → Numbers
numbers_in mask entries given = record {
  slots = length (slot_entries mask entries);
  places = map (slot_with (slot_entries mask entries)) (range_with_len 0 given);
}

pub record IsTable (mask : ℕ) (entries : List Entry) : Type 0 where
  pub heads : mask + 2 ≤ length entries
  pub few : length entries ≤ 2 ^ 32
  pub chains : AreChains mask (bit_and mask) (key_at entries) (next_at entries)

-- no key is that of a number that wasn't given
abbrev pub AreGiven : ℕ → List Entry → ℕ → Type 0
AreGiven mask entries given = (s : ℕ) → mask + 1 < s → key_at entries s ≤ given
