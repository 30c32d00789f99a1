use Rattle.std.proofs.Common.{◌∙◌, ◌+◌, ◌++◌, ap, if◌then◌else◌, is_some, length, option_to_list, sym}
use Rattle.http_ports.specs.Speech.{one_if}
use Rattle.server_ports.proofs.OutletLemmas.{chosen_many, clients_many, operators-there, own-there}
use Rattle.server_ports.proofs.PageLemmas.{are-opened}
use Rattle.server_ports.proofs.logging.part_lines.Goals as goal

pub part_last-others-requires : goal.part_last-others-requires
part_last-others-requires g c = λ so.
    let place = c.args.setup.now.place.now in
    own-there c.args.here.writing (if c.args.is_here then place.workers + one_if (is_some place.operator) else 0) _
    (is_some place.named) c.requires.fit.named (ap (λ senders. length senders.items) c.into_parts-others.ensures.senders ∙ c.requires.here)
    (sym c.is_some.ensures ∙ so)

pub part_last-clients-requires : goal.part_last-clients-requires
part_last-clients-requires g c = λ so.
    let place = c.args.setup.now.place.now in
    let chosen = rw c.into_parts-filed.ensures.senders at c.choose-senders.ensures in
    let parted = rw c.into_parts-others.ensures.senders at c.part_last-others.ensures.all in
    operators-there (is_some place.log) (is_some place.operator) place.workers _
    (ap length chosen
    ∙ chosen_many (is_some place.log) c.args.filed.writing c.args.here.writing c.args.is_here (is_some place.named)
    (place.workers + one_if (is_some place.operator)) c.args.filed.senders.items c.args.here.senders.items
    c.part_last-others.result.0.items c.part_last-others.result.1 c.requires.is_here c.requires.fit.logged c.requires.fit.written
    c.requires.filed c.requires.here parted (c.part_last-others.ensures.parted ∙ c.is_some.ensures))
    (sym c.is_operator_logged.ensures ∙ so)

pub returns-clause-many : goal.returns-clause-many
returns-clause-many g c =
    let place = c.args.setup.now.place.now in
    let chosen = rw c.into_parts-filed.ensures.senders at c.choose-senders.ensures in
    let parted = rw c.into_parts-others.ensures.senders at c.part_last-others.ensures.all in
    clients_many (is_some place.log) (is_some place.operator) place.workers c.choose-senders.result.items
    c.part_last-clients.result.0.items c.part_last-clients.result.1 c.part_last-clients.ensures.all
    (c.part_last-clients.ensures.parted ∙ c.is_operator_logged.ensures)
    (ap length chosen
    ∙ chosen_many (is_some place.log) c.args.filed.writing c.args.here.writing c.args.is_here (is_some place.named)
    (place.workers + one_if (is_some place.operator)) c.args.filed.senders.items c.args.here.senders.items
    c.part_last-others.result.0.items c.part_last-others.result.1 c.requires.is_here c.requires.fit.logged c.requires.fit.written
    c.requires.filed c.requires.here parted (c.part_last-others.ensures.parted ∙ c.is_some.ensures))

pub returns-clause-opened : goal.returns-clause-opened
returns-clause-opened g c =
    let place = c.args.setup.now.place.now in
    let chosen = rw c.into_parts-filed.ensures.senders at c.choose-senders.ensures in
    let parted = rw c.into_parts-others.ensures.senders at c.part_last-others.ensures.all in
    are-opened (λ writing. writing.opened.value.items) (λ writing. writing.opened.value.items) (is_some place.log)
    (is_some place.named) c.args.is_here (place.workers + one_if (is_some place.operator)) c.args.filed.senders.items
    c.args.here.senders.items c.part_last-others.result.0.items
    (c.part_last-clients.result.0.items ++ option_to_list c.part_last-clients.result.1) c.part_last-others.result.1
    c.args.here.writing c.args.filed.writing c.requires.is_here c.requires.filed c.requires.here parted
    (c.part_last-others.ensures.parted ∙ c.is_some.ensures) c.requires.here_opened c.requires.filed_opened
    (c.part_last-clients.ensures.all ∙ chosen)
