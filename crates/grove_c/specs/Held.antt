-- What a `Held` owns: the same as a `Box<Instance>`.
use base.Fml.{Fml}
use base.Stored.{Coded}
use denote.RawPtr.{Ptr}
use Rattle.std.specs.Box.Ownership.{box_owns}
use Rattle.std.specs.Global.{Global}
use Rattle.std_heap.specs.contracts.GlobalAllocator.TheImpl.{ghosts}
use Rattle.grove_c.specs.contracts.instance.Instance.{the_row}

abbrev pub held_owns : Global → Ptr → the_row.Denot → Fml
held_owns alloc = box_owns (ghosts.dealloc_token alloc) the_row

abbrev pub editor_coded : Coded the_row.Denot
editor_coded = the_row.coded
