mod ClientReplyLemmas
mod ClientRequestLemmas
mod PlainReplies
mod ReadBack
mod ReplyLemmas
mod RequestLemmas
mod Returns
mod SendingLemmas
