-- At each return: what a crash now leaves, and what a crash at any moment of the call does.
use Rattle.std.proofs.Common.{◌+◌, ◌∙◌, sym, subst}
use Rattle.edit_journal.specs.Disk.{Holds}
use Rattle.edit_journal.specs.Writing.{HasWithOrWithout}
use Rattle.edit_journal.proofs.Moments.{no_call, one_call}
use Rattle.edit_journal.proofs.Appending.{crash_before, crash_behind, crash_gate, appended}
use Rattle.edit_journal.proofs.writing.write_records.Goals as goal

pub returns-in_err-write_at-clause-crash : goal.returns-in_err-write_at-clause-crash
returns-in_err-write_at-clause-crash g c = λ only lines group appends. crash_behind (g.D.Disk.bytes c.args.disk.now) c.args.piece.now c.args.gate lines group c.requires.at_the_end c.requires.room appends _ _ only c.write_at.ensures.crash

pub returns-in_err-write_at-clause-any_moment : goal.returns-in_err-write_at-clause-any_moment
returns-in_err-write_at-clause-any_moment g c = λ told only lines group appends.
    let at_start = no_call g.D.Disk.tells_past g.D.Disk.moment g.D.Disk.left_since g.D.Disk.may_leave c.args.disk.now (HasWithOrWithout lines group) told (λ f left. g.met.D.Disk.only_now c.args.disk.now f told left) (crash_before (g.D.Disk.bytes c.args.disk.now) c.args.piece.now c.args.gate lines group c.requires.at_the_end c.requires.room appends _ only) in
    let behind = one_call g.D.Disk.tells_past g.D.Disk.moment g.D.Disk.left_since g.D.Disk.may_leave c.args.disk.now c.args.disk.now c.write_at.new.self (HasWithOrWithout lines group) at_start c.write_at.ensures.time (crash_behind (g.D.Disk.bytes c.args.disk.now) c.args.piece.now c.args.gate lines group c.requires.at_the_end c.requires.room appends _ _ only c.write_at.ensures.crash) in
    behind

pub returns-in_err-sync-clause-crash : goal.returns-in_err-sync-clause-crash
returns-in_err-sync-clause-crash g c = λ only lines group appends. λ f now. crash_behind (g.D.Disk.bytes c.args.disk.now) c.args.piece.now c.args.gate lines group c.requires.at_the_end c.requires.room appends _ _ only c.write_at.ensures.crash f (c.sync.ensures.crash f now)

pub returns-in_err-sync-clause-any_moment : goal.returns-in_err-sync-clause-any_moment
returns-in_err-sync-clause-any_moment g c = λ told only lines group appends.
    let at_start = no_call g.D.Disk.tells_past g.D.Disk.moment g.D.Disk.left_since g.D.Disk.may_leave c.args.disk.now (HasWithOrWithout lines group) told (λ f left. g.met.D.Disk.only_now c.args.disk.now f told left) (crash_before (g.D.Disk.bytes c.args.disk.now) c.args.piece.now c.args.gate lines group c.requires.at_the_end c.requires.room appends _ only) in
    let behind = one_call g.D.Disk.tells_past g.D.Disk.moment g.D.Disk.left_since g.D.Disk.may_leave c.args.disk.now c.args.disk.now c.write_at.new.self (HasWithOrWithout lines group) at_start c.write_at.ensures.time (crash_behind (g.D.Disk.bytes c.args.disk.now) c.args.piece.now c.args.gate lines group c.requires.at_the_end c.requires.room appends _ _ only c.write_at.ensures.crash) in
    let kept = one_call g.D.Disk.tells_past g.D.Disk.moment g.D.Disk.left_since g.D.Disk.may_leave c.args.disk.now c.write_at.new.self c.sync.new.self (HasWithOrWithout lines group) behind c.sync.ensures.time (λ f now. crash_behind (g.D.Disk.bytes c.args.disk.now) c.args.piece.now c.args.gate lines group c.requires.at_the_end c.requires.room appends _ _ only c.write_at.ensures.crash f (c.sync.ensures.crash f now)) in
    kept

pub returns-in_err-write_at-2-clause-crash : goal.returns-in_err-write_at-2-clause-crash
returns-in_err-write_at-2-clause-crash g c = λ only lines group appends. crash_gate (g.D.Disk.bytes c.args.disk.now) c.args.piece.now c.args.gate lines group c.requires.at_the_end c.requires.room appends (g.D.Disk.bytes c.sync.new.self) _ _ (subst (λ f. Holds (g.D.Disk.bytes c.args.disk.now) (c.args.gate + 1) c.args.piece.now f) (sym c.in_ok-sync.ensures.bytes) c.in_ok-write_at.ensures.written) c.in_ok-sync.ensures.durable c.write_at-2.ensures.crash

pub returns-in_err-write_at-2-clause-any_moment : goal.returns-in_err-write_at-2-clause-any_moment
returns-in_err-write_at-2-clause-any_moment g c = λ told only lines group appends.
    let at_start = no_call g.D.Disk.tells_past g.D.Disk.moment g.D.Disk.left_since g.D.Disk.may_leave c.args.disk.now (HasWithOrWithout lines group) told (λ f left. g.met.D.Disk.only_now c.args.disk.now f told left) (crash_before (g.D.Disk.bytes c.args.disk.now) c.args.piece.now c.args.gate lines group c.requires.at_the_end c.requires.room appends _ only) in
    let behind = one_call g.D.Disk.tells_past g.D.Disk.moment g.D.Disk.left_since g.D.Disk.may_leave c.args.disk.now c.args.disk.now c.write_at.new.self (HasWithOrWithout lines group) at_start c.write_at.ensures.time (crash_behind (g.D.Disk.bytes c.args.disk.now) c.args.piece.now c.args.gate lines group c.requires.at_the_end c.requires.room appends _ _ only c.write_at.ensures.crash) in
    let kept = one_call g.D.Disk.tells_past g.D.Disk.moment g.D.Disk.left_since g.D.Disk.may_leave c.args.disk.now c.write_at.new.self c.sync.new.self (HasWithOrWithout lines group) behind c.sync.ensures.time (λ f now. crash_behind (g.D.Disk.bytes c.args.disk.now) c.args.piece.now c.args.gate lines group c.requires.at_the_end c.requires.room appends _ _ only c.write_at.ensures.crash f (c.sync.ensures.crash f now)) in
    let opened = one_call g.D.Disk.tells_past g.D.Disk.moment g.D.Disk.left_since g.D.Disk.may_leave c.args.disk.now c.sync.new.self c.write_at-2.new.self (HasWithOrWithout lines group) kept c.write_at-2.ensures.time (crash_gate (g.D.Disk.bytes c.args.disk.now) c.args.piece.now c.args.gate lines group c.requires.at_the_end c.requires.room appends (g.D.Disk.bytes c.sync.new.self) _ _ (subst (λ f. Holds (g.D.Disk.bytes c.args.disk.now) (c.args.gate + 1) c.args.piece.now f) (sym c.in_ok-sync.ensures.bytes) c.in_ok-write_at.ensures.written) c.in_ok-sync.ensures.durable c.write_at-2.ensures.crash) in
    opened

pub returns-in_err-sync-2-clause-crash : goal.returns-in_err-sync-2-clause-crash
returns-in_err-sync-2-clause-crash g c = λ only lines group appends. λ f now. crash_gate (g.D.Disk.bytes c.args.disk.now) c.args.piece.now c.args.gate lines group c.requires.at_the_end c.requires.room appends (g.D.Disk.bytes c.sync.new.self) _ _ (subst (λ f. Holds (g.D.Disk.bytes c.args.disk.now) (c.args.gate + 1) c.args.piece.now f) (sym c.in_ok-sync.ensures.bytes) c.in_ok-write_at.ensures.written) c.in_ok-sync.ensures.durable c.write_at-2.ensures.crash f (c.sync-2.ensures.crash f now)

pub returns-in_err-sync-2-clause-any_moment : goal.returns-in_err-sync-2-clause-any_moment
returns-in_err-sync-2-clause-any_moment g c = λ told only lines group appends.
    let at_start = no_call g.D.Disk.tells_past g.D.Disk.moment g.D.Disk.left_since g.D.Disk.may_leave c.args.disk.now (HasWithOrWithout lines group) told (λ f left. g.met.D.Disk.only_now c.args.disk.now f told left) (crash_before (g.D.Disk.bytes c.args.disk.now) c.args.piece.now c.args.gate lines group c.requires.at_the_end c.requires.room appends _ only) in
    let behind = one_call g.D.Disk.tells_past g.D.Disk.moment g.D.Disk.left_since g.D.Disk.may_leave c.args.disk.now c.args.disk.now c.write_at.new.self (HasWithOrWithout lines group) at_start c.write_at.ensures.time (crash_behind (g.D.Disk.bytes c.args.disk.now) c.args.piece.now c.args.gate lines group c.requires.at_the_end c.requires.room appends _ _ only c.write_at.ensures.crash) in
    let kept = one_call g.D.Disk.tells_past g.D.Disk.moment g.D.Disk.left_since g.D.Disk.may_leave c.args.disk.now c.write_at.new.self c.sync.new.self (HasWithOrWithout lines group) behind c.sync.ensures.time (λ f now. crash_behind (g.D.Disk.bytes c.args.disk.now) c.args.piece.now c.args.gate lines group c.requires.at_the_end c.requires.room appends _ _ only c.write_at.ensures.crash f (c.sync.ensures.crash f now)) in
    let opened = one_call g.D.Disk.tells_past g.D.Disk.moment g.D.Disk.left_since g.D.Disk.may_leave c.args.disk.now c.sync.new.self c.write_at-2.new.self (HasWithOrWithout lines group) kept c.write_at-2.ensures.time (crash_gate (g.D.Disk.bytes c.args.disk.now) c.args.piece.now c.args.gate lines group c.requires.at_the_end c.requires.room appends (g.D.Disk.bytes c.sync.new.self) _ _ (subst (λ f. Holds (g.D.Disk.bytes c.args.disk.now) (c.args.gate + 1) c.args.piece.now f) (sym c.in_ok-sync.ensures.bytes) c.in_ok-write_at.ensures.written) c.in_ok-sync.ensures.durable c.write_at-2.ensures.crash) in
    let ended = one_call g.D.Disk.tells_past g.D.Disk.moment g.D.Disk.left_since g.D.Disk.may_leave c.args.disk.now c.write_at-2.new.self c.sync-2.new.self (HasWithOrWithout lines group) opened c.sync-2.ensures.time (λ f now. crash_gate (g.D.Disk.bytes c.args.disk.now) c.args.piece.now c.args.gate lines group c.requires.at_the_end c.requires.room appends (g.D.Disk.bytes c.sync.new.self) _ _ (subst (λ f. Holds (g.D.Disk.bytes c.args.disk.now) (c.args.gate + 1) c.args.piece.now f) (sym c.in_ok-sync.ensures.bytes) c.in_ok-write_at.ensures.written) c.in_ok-sync.ensures.durable c.write_at-2.ensures.crash f (c.sync-2.ensures.crash f now)) in
    ended

pub returns-clause-crash : goal.returns-clause-crash
returns-clause-crash g c = λ only lines group appends. λ f now. crash_gate (g.D.Disk.bytes c.args.disk.now) c.args.piece.now c.args.gate lines group c.requires.at_the_end c.requires.room appends (g.D.Disk.bytes c.sync.new.self) _ _ (subst (λ f. Holds (g.D.Disk.bytes c.args.disk.now) (c.args.gate + 1) c.args.piece.now f) (sym c.in_ok-sync.ensures.bytes) c.in_ok-write_at.ensures.written) c.in_ok-sync.ensures.durable c.write_at-2.ensures.crash f (c.sync-2.ensures.crash f now)

pub returns-clause-any_moment : goal.returns-clause-any_moment
returns-clause-any_moment g c = λ told only lines group appends.
    let at_start = no_call g.D.Disk.tells_past g.D.Disk.moment g.D.Disk.left_since g.D.Disk.may_leave c.args.disk.now (HasWithOrWithout lines group) told (λ f left. g.met.D.Disk.only_now c.args.disk.now f told left) (crash_before (g.D.Disk.bytes c.args.disk.now) c.args.piece.now c.args.gate lines group c.requires.at_the_end c.requires.room appends _ only) in
    let behind = one_call g.D.Disk.tells_past g.D.Disk.moment g.D.Disk.left_since g.D.Disk.may_leave c.args.disk.now c.args.disk.now c.write_at.new.self (HasWithOrWithout lines group) at_start c.write_at.ensures.time (crash_behind (g.D.Disk.bytes c.args.disk.now) c.args.piece.now c.args.gate lines group c.requires.at_the_end c.requires.room appends _ _ only c.write_at.ensures.crash) in
    let kept = one_call g.D.Disk.tells_past g.D.Disk.moment g.D.Disk.left_since g.D.Disk.may_leave c.args.disk.now c.write_at.new.self c.sync.new.self (HasWithOrWithout lines group) behind c.sync.ensures.time (λ f now. crash_behind (g.D.Disk.bytes c.args.disk.now) c.args.piece.now c.args.gate lines group c.requires.at_the_end c.requires.room appends _ _ only c.write_at.ensures.crash f (c.sync.ensures.crash f now)) in
    let opened = one_call g.D.Disk.tells_past g.D.Disk.moment g.D.Disk.left_since g.D.Disk.may_leave c.args.disk.now c.sync.new.self c.write_at-2.new.self (HasWithOrWithout lines group) kept c.write_at-2.ensures.time (crash_gate (g.D.Disk.bytes c.args.disk.now) c.args.piece.now c.args.gate lines group c.requires.at_the_end c.requires.room appends (g.D.Disk.bytes c.sync.new.self) _ _ (subst (λ f. Holds (g.D.Disk.bytes c.args.disk.now) (c.args.gate + 1) c.args.piece.now f) (sym c.in_ok-sync.ensures.bytes) c.in_ok-write_at.ensures.written) c.in_ok-sync.ensures.durable c.write_at-2.ensures.crash) in
    let ended = one_call g.D.Disk.tells_past g.D.Disk.moment g.D.Disk.left_since g.D.Disk.may_leave c.args.disk.now c.write_at-2.new.self c.sync-2.new.self (HasWithOrWithout lines group) opened c.sync-2.ensures.time (λ f now. crash_gate (g.D.Disk.bytes c.args.disk.now) c.args.piece.now c.args.gate lines group c.requires.at_the_end c.requires.room appends (g.D.Disk.bytes c.sync.new.self) _ _ (subst (λ f. Holds (g.D.Disk.bytes c.args.disk.now) (c.args.gate + 1) c.args.piece.now f) (sym c.in_ok-sync.ensures.bytes) c.in_ok-write_at.ensures.written) c.in_ok-sync.ensures.durable c.write_at-2.ensures.crash f (c.sync-2.ensures.crash f now)) in
    ended

pub returns-clause-appended : goal.returns-clause-appended
returns-clause-appended g c = λ lines group appends.
    c.in_ok-sync-2.ensures.bytes ∙ appended (g.D.Disk.bytes c.args.disk.now) c.args.piece.now c.args.gate lines group c.requires.at_the_end c.requires.room appends (g.D.Disk.bytes c.sync.new.self) _ (subst (λ f. Holds (g.D.Disk.bytes c.args.disk.now) (c.args.gate + 1) c.args.piece.now f) (sym c.in_ok-sync.ensures.bytes) c.in_ok-write_at.ensures.written) c.in_ok-write_at-2.ensures.written
