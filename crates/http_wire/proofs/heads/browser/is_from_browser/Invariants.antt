use Rattle.std.proofs.Common.{◌≡◌, false, map, take}
use Rattle.std.specs.List.{list_any}
use Rattle.httparse.specs.Spans.{header_bytes}
use Rattle.http_wire.specs.Browsers.{is_browsers}
use Rattle.http_wire.proofs.heads.browser.is_from_browser.Given as goal

abbrev pub invariant-loop-field : goal.invariant-loop-field
invariant-loop-field l = list_any is_browsers (map (header_bytes l.buf) (take l.field-index l.fields)) ≡ false
