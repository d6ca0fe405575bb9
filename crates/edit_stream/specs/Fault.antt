-- What the answers of a stream say of it.
use Rattle.std.specs.Prelude.{◌≡◌, ◌≢◌, [], Some, None}
use Rattle.edit_stream.specs.declared.feed_fault.FeedFault.{FeedFault}
use Rattle.edit_stream.specs.declared.feed_fault.FeedFault.TheVariants as feed
use Rattle.edit_stream.specs.declared.finish_fault.FinishFault.{FinishFault}
use Rattle.edit_stream.specs.declared.finish_fault.FinishFault.TheVariants as finish
use Rattle.edit_stream.specs.Stream.{StreamState, next_line}

-- the stream has the fault, in the line behind those that were read; want of memory says nothing of it
abbrev pub IsFeedFault : StreamState → FeedFault → Type 0
IsFeedFault stream (feed.Malformed line fault) = (line ≡ next_line stream) × (stream.fault ≡ Some fault)
IsFeedFault stream feed.NoMemory = Unit {0}

-- P where the fault is that of a line
abbrev pub IfMalformed : FeedFault → Type 0 → Type 0
IfMalformed (feed.Malformed line fault) P = P
IfMalformed feed.NoMemory P = Unit {0}

-- P where memory ran out
abbrev pub IfNoMemory : FeedFault → Type 0 → Type 0
IfNoMemory (feed.Malformed line fault) P = Unit {0}
IfNoMemory feed.NoMemory P = P

-- the stream has the fault, or it has none and bytes stand behind the last LF
abbrev pub IsFinishFault : StreamState → FinishFault → Type 0
IsFinishFault stream (finish.Malformed line fault) = (line ≡ next_line stream) × (stream.fault ≡ Some fault)
IsFinishFault stream (finish.Rest line) = (line ≡ next_line stream) × (stream.fault ≡ None) × (stream.kept ≢ [])
