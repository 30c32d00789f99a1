use Rattle.std.proofs.Common.{rules}
use Rattle.http_desks.proofs.answering.is_asked.Goals as goal

pub returns-in-BrowserPost : goal.returns-in-BrowserPost
returns-in-BrowserPost c = search rules
