-- The calls of files and output in memory.
use Rattle.std.specs.Prelude.{◌≡◌, ℕ, ◌+◌, ◌-◌, ◌^◌, ◌++◌, min, List, length, take, Contains, ◌⊎◌, None, Result, Ok, Err, ⊤, true, false, Vec}
use Rattle.std.specs.declared.alloc.Global.{Global}
use Rattle.aq_world.specs.Files.{first_of}
use Rattle.aq_world.specs.declared.memory.MemoryShelf.{MemoryShelf}
use Rattle.aq_world.specs.declared.memory.MemorySink.{MemorySink}
use Rattle.aq_world.specs.declared.shelf.KeepFault.{KeepFault}
use Rattle.aq_world.specs.declared.shelf.KeepFault.TheVariants as keep
use Rattle.aq_world.specs.declared.shelf.ReadFault.{ReadFault}
use Rattle.aq_world.specs.declared.shelf.ReadFault.TheVariants as read
use Rattle.aq_world.specs.declared.sink.SinkFault.{SinkFault}
use Rattle.aq_world.specs.declared.sink.SinkFault.TheVariants as fault

-- one more, up to the type's end
abbrev pub one_more : ℕ → ℕ
one_more n = min (n + 1) (2 ^ 64 - 1)

-- What a call of the sink leaves: the call is counted; a failed one counts as such; and a piece is taken up to the most bytes.
abbrev pub put_leaves : MemorySink → List ℕ → Result ℕ SinkFault → MemorySink
put_leaves old piece (Ok k) = record old { bytes = old.bytes ++ take k piece; calls = one_more old.calls }
put_leaves old piece (Err fault.Failed) = record old { calls = one_more old.calls; count = one_more old.count }
put_leaves old piece (Err fault.Memory) = record old { calls = one_more old.calls }

-- Why a call of the sink answers so: it fails where its number is among those that fail, and only there; want of memory may come
-- at each other call.
abbrev pub PutAnswers : MemorySink → List ℕ → Result ℕ SinkFault → Type 0
PutAnswers old piece (Ok k) = (Contains old.fails old.calls → ⊥) × (k ≡ min (length piece) old.most)
PutAnswers old piece (Err fault.Failed) = Contains old.fails old.calls
PutAnswers old piece (Err fault.Memory) = Contains old.fails old.calls → ⊥

-- A read fails where its number is among those that fail, or where the name isn't held.
abbrev pub ReadFails : MemoryShelf → List ℕ → Type 0
ReadFails old name = Contains old.fails old.calls ⊎ (first_of old.files name ≡ None)

-- what a read leaves: the call is counted, and a failed one counts as such and is blamed on the name
abbrev pub read_leaves : MemoryShelf → List ℕ → Result (Vec ℕ Global) ReadFault → MemoryShelf
read_leaves old name (Err read.Failed) =
    record old { calls = one_more old.calls; count = one_more old.count; blamed = name; keeping = false }
read_leaves old name _ = record old { calls = one_more old.calls }

-- a read fails exactly there, but for want of memory
abbrev pub ReadAnswers : MemoryShelf → List ℕ → Result (Vec ℕ Global) ReadFault → Type 0
ReadAnswers old name (Ok bytes) = ReadFails old name → ⊥
ReadAnswers old name (Err read.Failed) = ReadFails old name
ReadAnswers old name (Err (read.TooLong bytes)) = ReadFails old name → ⊥
ReadAnswers old name (Err read.Memory) = ⊤

-- What a keep leaves: the call is counted, and a failed one counts as such and is blamed on the name. Only one that is kept
-- changes the files.
abbrev pub keep_leaves : MemoryShelf → MemoryShelf → List ℕ → Result (Unit {0}) KeepFault → MemoryShelf
keep_leaves old new name (Ok x) = record old { calls = one_more old.calls; files = new.files }
keep_leaves old new name (Err keep.Failed) =
    record old { calls = one_more old.calls; count = one_more old.count; blamed = name; keeping = true }
keep_leaves old new name (Err keep.Memory) = record old { calls = one_more old.calls }

-- a keep fails exactly where its number is among those that fail, but for want of memory
abbrev pub KeepAnswers : MemoryShelf → Result (Unit {0}) KeepFault → Type 0
KeepAnswers old (Ok x) = Contains old.fails old.calls → ⊥
KeepAnswers old (Err keep.Failed) = Contains old.fails old.calls
KeepAnswers old (Err keep.Memory) = ⊤
