use Rattle.std.proofs.Common.{◌≡◌, ◌≤◌, false, Some, ap, ◌∙◌}
use Rattle.serde_json.specs.Data.{depth}
use Rattle.serde_json.specs.Read.{max_depth}
use Rattle.serde_json.specs.View.{view}
use Rattle.serde_json.specs.Written.{has_float, compact_text}
use Rattle.omaha_json.specs.RequestReading.{request_of_bytes}
use Rattle.omaha_json.specs.RequestWriting.{request_data}
use Rattle.omaha_json.proofs.ClientReplyLemmas.{json_of-read}
use Rattle.omaha_json.proofs.ClientRequestLemmas.{has_float-request_data, depth-request_data, request_back}
use Rattle.omaha_json.proofs.client.request_writer.write_request.Goals as goal

pub returns-clause-text : goal.returns-clause-text
returns-clause-text c =
    let built : view c.in_ok-value.value ≡ request_data c.args.request.now = c.in_ok-value.ensures in
    let plain : has_float (view c.in_ok-value.value) ≡ false =
    rw built (has_float-request_data c.args.request.now) in
    c.in_ok-text.ensures.text plain ∙ ap compact_text built

pub returns-clause-reads_back : goal.returns-clause-reads_back
unfolding request_of_bytes
returns-clause-reads_back c =
    let built : view c.in_ok-value.value ≡ request_data c.args.request.now = c.in_ok-value.ensures in
    let shallow : depth (view c.in_ok-value.value) ≤ max_depth =
    rw built (depth-request_data c.args.request.now) in
    let found = c.in_ok-text.ensures.reads_back shallow ∙ ap Some built in
    rw (json_of-read _ _ c.in_ok-text.ensures.utf8 found) (request_back c.args.request.now c.requires)
