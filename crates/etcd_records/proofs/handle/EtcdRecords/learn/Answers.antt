use Rattle.std.proofs.Common.{◌+◌, ◌<◌, ◌∙◌, Some, ap, length, refl, subst, sym}
use Rattle.kept_records.specs.Keeping.{bytes_in, record_of}
use Rattle.kept_records.specs.declared.record.Record.{Record}
use Rattle.etcd_records.specs.declared.handle.Last.{Last}
use Rattle.etcd_records.specs.Handles.{Handle, IsHandle, IsShown, known_in}
use Rattle.etcd_records.proofs.HandleLemmas.{learned}
use Rattle.etcd_records.proofs.handle.EtcdRecords.learn.Goals as goal

pub invariant_of-self : goal.invariant_of-self
invariant_of-self g c =
    let it = c.self.inside in
    let exchanges = g.G.Gateway.exchanges it.gateway in
    let added = record_of c.args.kind c.args.bytes.now in
    let next : Last = record { mark = added; was_read = c.args.was_read; left = it.left } in
    let passes = c.pass.ensures ∙ ap (known_in it.marks) c.take-last.ensures.value in
    let room = subst (λ (h : Handle _). length h.kept < 65536) (sym c.self.view_is) c.requires.room in
    let shown = subst (λ (h : Handle _). IsShown (g.G.Gateway.exchanges h.gateway) h.prefix (length h.kept + 1) added)
    (sym c.self.view_is) c.requires.shown in
    let left = c.less-self-inside.ensures it.limit (bytes_in (known_in it.marks it.last)) c.self.invariant.left_is in
    subst (λ (m : Record). IsHandle exchanges it.prefix (it.count + 1) c.less-self-inside.result it.limit c.pass.new.marks
    (Some (record { mark = m; was_read = c.args.was_read; left = it.left })))
    (sym c.of.ensures)
    (learned exchanges it.prefix it.count it.left c.less-self-inside.result it.limit it.marks c.pass.new.marks it.last next
    c.self.invariant passes refl room shown left)
