mod Run
mod AfterExport
mod RunAfterExport
mod Examples
